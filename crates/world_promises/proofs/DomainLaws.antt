-- The domain that is told is a name, and so is the one that stands where none is.
use Rattle.std.proofs.Common.{◌≡◌, ℕ, List, [], ◌∷◌, length, Bool, true, false, not, ◌&&◌, nat_le, codes, refl, arith}
use Rattle.std.specs.List.{list_all}
use Rattle.std.specs.Str.{is_utf8, chars}
use lib.Utf8.{encode}
use Rattle.std.proofs.lemmas.Bool.{and_parts, leb-true, or_parts}
use Rattle.wire_base.specs.Names.{IsName}
use Rattle.wire_base.specs.Texts.{is_text}
use Rattle.attr_tuples.specs.Forms.{is_dom, is_dom_byte}
use Rattle.world_history.specs.Acts.{Act, Domain, domain, was_asked}
use Rattle.world_history.specs.Scripts.{is_unfit}
use Rattle.world_promises.specs.Conditions.{AreDone}

is_so : (b : Bool) → not b ≡ false → b ≡ true
is_so true h = refl
is_so false h = cc h

default_named : IsName 48 (codes "x")
unfolding is_text is_utf8 chars encode
default_named = record { text = refl; short = omega arith }

told : (acts : List Act) (dom : List ℕ) → is_unfit acts (Domain dom) ≡ false → is_dom dom ≡ true
unfolding is_unfit
told acts dom fits = is_so (is_dom dom) (or_parts (was_asked acts) (not (is_dom dom)) fits).1

name_by : (dom : List ℕ) → is_dom dom ≡ true → is_text dom ≡ true → IsName 48 dom
name_by dom formed text =
    let rest = (and_parts (nat_le 1 (length dom)) (nat_le (length dom) 47 && list_all is_dom_byte dom) formed).1 in
    let most = leb-true (length dom) 47 (and_parts (nat_le (length dom) 47) (list_all is_dom_byte dom) rest).0 in
    record { text = text; short = omega (arith, most) }

pub domain_named : (acts : List Act) → AreDone acts → IsName 48 (domain acts)
domain_named [] done = default_named
domain_named (Domain dom ∷ before) done = name_by dom (told before dom done.0.fits) done.0.spelled
domain_named (act ∷ before) done = domain_named before done.1
