-- Words of the code are text.
use Rattle.std.proofs.Common.{◌≡◌, true, codes, refl}
use Rattle.std.specs.Str.{is_utf8, chars}
use lib.Utf8.{encode}
use Rattle.wire_base.specs.Texts.{is_text}

-- the word that stands before the words of `authsrv`
pub name_is_text : is_text (codes "authsrv") ≡ true
unfolding is_text is_utf8 chars encode
name_is_text = refl

-- the sign for an address that isn't known
pub mark_is_text : is_text (codes "?") ≡ true
unfolding is_text is_utf8 chars encode
mark_is_text = refl
