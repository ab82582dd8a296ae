-- A user is a name of a field of 28 bytes, a domain of 48, and so is no text.
use Rattle.std.proofs.Common.{◌≡◌, ℕ, List, [], true, leb, length, arith, refl}
use Rattle.std.specs.List.{list_all}
use Rattle.std.specs.Str.{is_utf8, chars}
use Rattle.std.proofs.lemmas.Bool.{and_parts, leb-true}
use Rattle.wire_base.specs.Texts.{is_text}
use Rattle.wire_base.specs.Names.{IsName}
use Rattle.attr_tuples.specs.Forms.{is_dom, is_dom_byte, is_user, is_above_blank}

pub user_is_name : (text : List ℕ) → is_text text ≡ true → is_user text ≡ true → IsName 28 text
user_is_name text valid user =
    let parts = and_parts (leb 1 (length text)) _ user in
    let most = and_parts (leb (length text) 27) (list_all is_above_blank text) parts.1 in
    record { text = valid; short = omega (arith, leb-true (length text) 27 most.0) }

pub dom_is_name : (text : List ℕ) → is_text text ≡ true → is_dom text ≡ true → IsName 48 text
dom_is_name text valid dom =
    let parts = and_parts (leb 1 (length text)) _ dom in
    let most = and_parts (leb (length text) 47) (list_all is_dom_byte text) parts.1 in
    record { text = valid; short = omega (arith, leb-true (length text) 47 most.0) }

no_text : is_text [] ≡ true
unfolding is_text is_utf8 chars
no_text = refl

pub nothing_is_name : IsName 48 []
nothing_is_name = record { text = no_text; short = omega arith }
