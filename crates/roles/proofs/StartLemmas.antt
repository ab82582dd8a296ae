-- A user of a text is a name of a field of 28 bytes, and so is nobody. What meets the rules of p9sk1 starts it.
use Rattle.std.proofs.Common.{◌≡◌, ℕ, List, [], None, true, leb, length, codes, refl, arith}
use Rattle.std.specs.List.{list_all}
use Rattle.std.proofs.lemmas.Bool.{and_parts, leb-true}
use Rattle.std.specs.Str.{is_utf8, chars}
use Rattle.wire_base.specs.Texts.{is_text}
use Rattle.wire_base.specs.Names.{IsName}
use Rattle.attr_tuples.specs.declared.attr.Attr.{Attr}
use Rattle.roles.specs.Starts.{fault_of, start_fault}
use Rattle.attr_tuples.specs.Forms.{is_user, is_above_blank}

pub user_is_name : (text : List ℕ) → is_text text ≡ true → is_user text ≡ true → IsName 28 text
user_is_name text valid user =
    let parts = and_parts (leb 1 (length text)) _ user in
    let most = and_parts (leb (length text) 27) (list_all is_above_blank text) parts.1 in
    record { text = valid; short = omega (arith, leb-true (length text) 27 most.0) }

pub nobody_is_name : IsName 28 []
unfolding is_text is_utf8 chars
nobody_is_name = record { text = refl; short = omega arith }

pub p9sk1_starts : (template : List Attr) → fault_of (codes "p9sk1") template ≡ None → start_fault template ≡ None
unfolding fault_of start_fault
p9sk1_starts template none = none
