-- Texts that are values of a template, or a password.
use Rattle.std.proofs.Common.{◌≡◌, [], true, codes, refl}
use Rattle.std.specs.Str.{is_utf8, chars}
use lib.Utf8.{encode}
use Rattle.wire_base.specs.Texts.{is_text}
use Rattle.attr_tuples.specs.declared.attr.Value.TheVariants.{Is}
use Rattle.attr_tuples.specs.Attributes.{is_value}

pub apop_is_value : is_value (Is (codes "apop")) ≡ true
unfolding is_text is_utf8 chars encode
apop_is_value = refl

pub cram_is_value : is_value (Is (codes "cram")) ≡ true
unfolding is_text is_utf8 chars encode
cram_is_value = refl

-- the empty password
pub nothing_is_text : is_text [] ≡ true
unfolding is_text is_utf8 chars
nothing_is_text = refl
