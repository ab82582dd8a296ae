-- What is found for what was begun, and for nothing.
use Rattle.std.proofs.Common.{◌≡◌, Option, Some, None, ◌∙◌, ap, subst, sym, refl}
use Rattle.attr_tuples.specs.declared.attr.Attr.{Attr}
use Rattle.std.specs.Prelude.{ℕ, List}
use Rattle.key_lists.specs.Lists.{KeyList}
use Rattle.roles.specs.declared.need.Need.{Need}
use Rattle.roles.specs.declared.need.Need.TheVariants.{Nothing, Key, Offers, Pick, Exchange}
use Rattle.roles.specs.Answers.{IsKey}
use Rattle.talks.specs.Calls.{Found}
use Rattle.talks.specs.Searches.{found_by}
use Rattle.talks.specs.Standings.{Begun, found_for, need_in, role_name}
use Rattle.talks.specs.declared.said.Said.{Said}
use Rattle.talks.specs.declared.said.Asking.{Asking}
use Rattle.talks.specs.Protocols.{needs}
use Rattle.conversations.specs.declared.begun.Begun.{Begun as Held}
use Rattle.conversations.specs.Begins.{IsBegun}
use Rattle.conversations.specs.Fits.{BothBegun}
use Rattle.conversations.specs.Shown.{asked_in}

none_some : {template : List Attr} → Some template ≡ None → ⊥
none_some e = cc

-- a template is asked where a key is needed
pub asked_key : (need : Need) (template : List Attr) (role : List ℕ) (said : Said) (asking : Asking) (list : KeyList) → Some template ≡ asked_in need → found_by template role said asking list ≡ found_for need role said asking list
asked_key (Key t) template role said asking list e = ap (λ (o : Option (List Attr)). elim o [ None ↦ found_by template role said asking list | Some t ↦ found_by t role said asking list ]) e
asked_key (Offers t) template role said asking list e = absurd (none_some e)
asked_key (Pick ts) template role said asking list e = absurd (none_some e)
asked_key (Exchange request shape) template role said asking list e = absurd (none_some e)
asked_key Nothing template role said asking list e = absurd (none_some e)

pub not_asked : (need : Need) → None ≡ asked_in need → IsKey need → ⊥
not_asked (Key t) e key = none_some (sym e)
not_asked (Offers t) e key = key
not_asked (Pick ts) e key = key
not_asked (Exchange request shape) e key = key
not_asked Nothing e key = key

pub found_in : (kept : Held) (old : Option Held) (begun : Option Begun) (said : Said) (asking : Asking) (list : KeyList) (came : Found) → old ≡ Some kept → BothBegun old begun → IsKey (need_in begun) → ((b : Begun) → IsBegun kept b → IsKey (needs b.start b.moves) → came ≡ found_for (needs b.start b.moves) (role_name (Some b)) said asking list) → came ≡ found_for (need_in begun) (role_name begun) said asking list
found_in kept old None said asking list came e both key f = absurd key
found_in kept old (Some b) said asking list came e both key f = f b (subst (λ x. BothBegun x (Some b)) e both) key

pub begun_none : (old : Option Held) (begun : Option Begun) → old ≡ None → BothBegun old begun → IsKey (need_in begun) → ⊥
begun_none old None e both key = key
begun_none old (Some b) e both key = subst (λ x. BothBegun x (Some b)) e both
