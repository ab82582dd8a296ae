-- What was found so far, one server after the other.
use Rattle.std.proofs.Common.{◌≡◌, ℕ, ◌-◌, ◌<◌, List, [], ◌∷◌, ◌++◌, true, false, Option, length, get_or, take, take_all, drop, refl, sym, ap, subst, ◌∙◌, arith}
use Rattle.sockets.specs.Asking.{AllFound, Another, HeardOf, InOrder, IsOrderNow, NobodyYet, Passed, Unheard}
use Rattle.sockets.specs.Failures.{Answered, Failed, Finding, Finds, StandsFor}

-- how far the servers of an order were asked
pub record Going (order left : List ℕ) (old new : Option (ℕ → Option ℕ)) : Type 0 where
  pub found : List Finding
  pub passed : Passed order left found
  pub finds : AllFound found old new

pub begun : (order : List ℕ) (told : Option (ℕ → Option ℕ)) → Going order order told told
begun order told = record { found = []; passed = NobodyYet; finds = λ before stands. stands }

pub failed_one : (order left : List ℕ) (i moment : ℕ) (old mid then_ new : Option (ℕ → Option ℕ)) → Going order (i ∷ left) old mid → then_ ≡ mid → Finds (Failed i moment) then_ new → Going order left old new
failed_one order left i moment old mid then_ new going same finds = record {
  found = Failed i moment ∷ going.found;
  passed = Another i moment going.passed;
  finds = λ before stands. finds (going.found ++ before) (subst (StandsFor (going.found ++ before)) (sym same) (going.finds before stands));
}

pub heard_one : (order left : List ℕ) (i : ℕ) (old mid then_ new : Option (ℕ → Option ℕ)) → Going order (i ∷ left) old mid → then_ ≡ mid → Finds (Answered i) then_ new → HeardOf order old new
heard_one order left i old mid then_ new going same finds = record {
  server = i;
  left = left;
  found = going.found;
  passed = going.passed;
  finds = λ before stands. finds (going.found ++ before) (subst (StandsFor (going.found ++ before)) (sym same) (going.finds before stands));
}

pub not_heard : (order left : List ℕ) (old mid new : Option (ℕ → Option ℕ)) → Going order left old mid → new ≡ mid → Unheard order old new
not_heard order left old mid new going same = record {
  left = left;
  found = going.found;
  passed = going.passed;
  finds = λ before stands. subst (StandsFor (going.found ++ before)) (sym same) (going.finds before stands);
}

-- an order, and what came of asking in it
pub in_order_heard : (count : ℕ) (order : List ℕ) (old mid new : Option (ℕ → Option ℕ)) → IsOrderNow old count order → mid ≡ old → HeardOf order mid new → InOrder count true old new
in_order_heard count order old mid new named same heard = record {
  order = order;
  named = named;
  asked = subst (λ (told : Option (ℕ → Option ℕ)). HeardOf order told new) same heard;
}

pub in_order_unheard : (count : ℕ) (order : List ℕ) (old mid new : Option (ℕ → Option ℕ)) → IsOrderNow old count order → mid ≡ old → Unheard order mid new → InOrder count false old new
in_order_unheard count order old mid new named same unheard = record {
  order = order;
  named = named;
  asked = subst (λ (told : Option (ℕ → Option ℕ)). Unheard order told new) same unheard;
}

pub none_asked : (order : List ℕ) (told : Option (ℕ → Option ℕ)) → Unheard order told told
none_asked order told = not_heard order order told told told (begun order told) refl

-- the first of a list and the others
pub first_and_rest : (xs : List ℕ) → 0 < length xs → xs ≡ get_or xs 0 0 ∷ take (length xs - 1) (drop 1 xs)
first_and_rest [] some = absurd (omega (arith, some))
first_and_rest (x ∷ xs) some =
    let long : length (x ∷ xs) - 1 ≡ length xs = omega arith in
    ap (λ (l : List ℕ). x ∷ l) (sym (ap (λ (n : ℕ). take n xs) long ∙ take_all (length xs) xs (omega arith)))

-- one that is first of those that are left, by an equation
pub failed_first : (order all left : List ℕ) (i moment : ℕ) (old mid then_ new : Option (ℕ → Option ℕ)) → all ≡ i ∷ left → Going order all old mid → then_ ≡ mid → Finds (Failed i moment) then_ new → Going order left old new
failed_first order all left i moment old mid then_ new first going same finds = failed_one order left i moment old mid then_ new (subst (λ (l : List ℕ). Going order l old mid) first going) same finds

pub heard_first : (order all left : List ℕ) (i : ℕ) (old mid then_ new : Option (ℕ → Option ℕ)) → all ≡ i ∷ left → Going order all old mid → then_ ≡ mid → Finds (Answered i) then_ new → HeardOf order old new
heard_first order all left i old mid then_ new first going same finds = heard_one order left i old mid then_ new (subst (λ (l : List ℕ). Going order l old mid) first going) same finds
