-- What is kept for each number, where what stands at the key of one is removed.
use Rattle.std.proofs.Common.{◌≡◌, ℕ, Bool, true, false, cond, eqb, Option, Some, None, refl, sym, ap, subst, ◌∙◌, inl, inr}
use Rattle.std.proofs.lemmas.Bool.{cases_Bool, cases_eq, eq-eqb, eqb-true, false≢true}
use Rattle.slab.specs.Slab.{Slab, Updates, get as slot}
use Rattle.agent_talks.specs.declared.numbered.Numbered.{Numbered}
use Rattle.agent_talks.specs.declared.numbered.NumberedTalks.{NumberedTalks}
use Rattle.agent_talks.specs.Keyed.{key_at}
use Rattle.agent_talks.specs.Numbered.{key_by, key_if, key_in, kept_by, kept_if, kept_in, without}

-- what stands at a key that was found isn't another's
other_slot : (conv other key : ℕ) (o : Option Numbered) → key_if conv key o ≡ Some key → eqb conv other ≡ false → kept_if other o ≡ None
other_slot conv other key None found apart = refl
other_slot conv other key (Some n) found apart =
    elim (cases_Bool (eqb n.conv other)) [
      | inl is ↦ absurd (by_test (eqb n.conv conv) refl found (eqb-true n.conv other is))
      | inr is ↦ ap (λ (b : Bool). cond b (Some n.conversation) None) is
    ]
  where
    by_test : (b : Bool) → eqb n.conv conv ≡ b → cond b (Some key) None ≡ Some key → n.conv ≡ other → ⊥
    by_test true same e is = false≢true (sym apart ∙ eq-eqb conv other (sym (eqb-true n.conv conv same) ∙ is))
    by_test false differs e is = absurd (cc)

-- the key that is found for a number is that of the map
found_slot : (conv key : ℕ) (slab : Slab Numbered) (o : Option ℕ) → key_by conv slab o ≡ Some key → key_if conv key (slot slab key) ≡ Some key
found_slot conv key slab None found = absurd (cc)
found_slot conv key slab (Some at) found = by_slot (slot slab at) refl found
  where
    by_number : (n : Numbered) (b : Bool) → eqb n.conv conv ≡ b → slot slab at ≡ Some n → cond b (Some at) None ≡ Some key → key_if conv key (slot slab key) ≡ Some key
    by_number n true same there e =
        let is : at ≡ key = cc in
        subst (λ (k : ℕ). key_if conv k (slot slab k) ≡ Some k) is (ap (key_if conv at) there ∙ ap (λ (b : Bool). cond b (Some at) None) same)
    by_number n false same there e = absurd (cc)

    by_slot : (s : Option Numbered) → slot slab at ≡ s → key_if conv at s ≡ Some key → key_if conv key (slot slab key) ≡ Some key
    by_slot None there e = absurd (cc)
    by_slot (Some n) there e = by_number n (eqb n.conv conv) refl there e

slot_other : (other : ℕ) (old new : Slab Numbered) (key : ℕ) → Updates old new key None → kept_if other (slot old key) ≡ None → (o : Option ℕ) → kept_by other new o ≡ kept_by other old o
slot_other other old new key u was None = refl
slot_other other old new key u was (Some at) =
    elim (cases_eq at key) [
      | inl same ↦ ap (λ (k : ℕ). kept_if other (slot new k)) same ∙ ap (kept_if other) u.changed ∙ sym was ∙ sym (ap (λ (k : ℕ). kept_if other (slot old k)) same)
      | inr differs ↦ ap (kept_if other) (u.others at differs)
    ]

pub removed : (old new : NumberedTalks) (conv key : ℕ) → key_in old conv ≡ Some key → Updates old.slab new.slab key None → ((other : ℕ) → key_at new.keys other ≡ cond (eqb conv other) None (key_at old.keys other)) → (other : ℕ) → kept_in new other ≡ without conv other (kept_in old other)
removed old new conv key found u keys other = by_other (eqb conv other) refl
  where
    by_other : (b : Bool) → eqb conv other ≡ b → kept_in new other ≡ cond b None (kept_in old other)
    by_other true is = ap (kept_by other new.slab) (keys other ∙ ap (λ (b : Bool). cond b None (key_at old.keys other)) is)
    by_other false is =
        ap (kept_by other new.slab) (keys other ∙ ap (λ (b : Bool). cond b None (key_at old.keys other)) is)
        ∙ slot_other other old.slab new.slab key u (other_slot conv other key (slot old.slab key) (found_slot conv key old.slab (key_at old.keys conv) found) is) (key_at old.keys other)
