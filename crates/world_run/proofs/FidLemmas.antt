-- Fids that are held.
use Rattle.std.proofs.Common.{◌≡◌, ℕ, zero, suc, ◌+◌, ◌-◌, ◌<◌, max, List, [], ◌∷◌, ◌++◌, map, filter, Bool, true, false, not, ◌||◌, ◌==◌, refl, sym, ap, ◌∙◌, inl, inr, arith}
use Rattle.std.specs.List.{list_any}
use Rattle.std.specs.Str.{bytes_eq}
use Rattle.std.proofs.lemmas.Bool.{cases_Bool, cond-true, cond-false}
use Rattle.world_history.specs.Acts.{is_held, least_from}
use Rattle.world_run.specs.declared.fids.Open.{Open}
use Rattle.world_run.specs.Fids.{fids, named}

pub max_behind : (a b c : ℕ) → max (max a b) c ≡ max a (max b c)
max_behind a b c = omega arith

any_held : (fid : ℕ) (held : List Open) → list_any (λ one. one.fid == fid) held ≡ is_held fid (fids held)
any_held fid [] = refl
any_held fid (o ∷ more) = ap (λ (b : Bool). (o.fid == fid) || b) (any_held fid more)

-- of so many, the next where the first is held, and else the first
pub least_held : (left fid : ℕ) (held : List Open) → 0 < left → list_any (λ one. one.fid == fid) held ≡ true → least_from left fid (fids held) ≡ least_from (left - 1) (fid + 1) (fids held)
least_held zero fid held some is = absurd (omega (arith, some))
least_held (suc n) fid held some is =
    let e : n ≡ suc n - 1 = omega arith in
    cond-true (is_held fid (fids held)) (least_from n (fid + 1) (fids held)) fid (sym (any_held fid held) ∙ is) ∙ ap (λ (m : ℕ). least_from m (fid + 1) (fids held)) e

pub least_free : (left fid : ℕ) (held : List Open) → 0 < left → list_any (λ one. one.fid == fid) held ≡ false → least_from left fid (fids held) ≡ fid
least_free zero fid held some is = absurd (omega (arith, some))
least_free (suc n) fid held some is = cond-false (is_held fid (fids held)) (least_from n (fid + 1) (fids held)) fid (sym (any_held fid held) ∙ is)

-- the fids of what is named
pub fids_named : (held : List Open) → map (λ (o : List ℕ × ℕ). o.1) (named held) ≡ fids held
fids_named [] = refl
fids_named (o ∷ more) = ap (λ (fs : List ℕ). o.fid ∷ fs) (fids_named more)

-- one more, and those of another name
pub named_more : (held : List Open) (one : Open) → named (held ++ one ∷ []) ≡ named held ++ (one.conv, one.fid) ∷ []
named_more [] one = refl
named_more (o ∷ more) one = ap (λ (ns : List (List ℕ × ℕ)). (o.conv, o.fid) ∷ ns) (named_more more one)

pub named_left : (conv : List ℕ) (held : List Open) → named (filter (λ o. not (bytes_eq o.conv conv)) held) ≡ filter (λ (o : List ℕ × ℕ). not (bytes_eq o.0 conv)) (named held)
named_left conv [] = refl
named_left conv (o ∷ more) = elim (cases_Bool (bytes_eq o.conv conv)) [
  | inl is ↦ rw (is, named_left conv more) refl
  | inr is ↦ rw (is, named_left conv more) refl
]

pub not_false : (b : Bool) → false ≡ not b → b ≡ true
not_false true e = refl
not_false false e = e

pub not_true : (b : Bool) → true ≡ not b → b ≡ false
not_true true e = e
not_true false e = refl
