-- The fid of a conversation is the only one that has it open.
use Rattle.std.proofs.Common.{◌≡◌, ℕ, ◌<◌, List, [], ◌∷◌, Bool, true, false, cond, eqb, ltb, map, Option, Some, refl, sym, arith}
use Rattle.std.specs.Prelude.{find, option_map}
use Rattle.std.specs.List.{list_all}
use Rattle.std.proofs.lemmas.Bool.{and_parts, eqb-true, ltb-true}
use Rattle.agent_history.specs.Conversations.{Speaker}
use Rattle.agent_laws.proofs.ConversationLaws.{Rise, rise_parts}
use Rattle.driven_agents.proofs.SeatLaws.{is_at}

abbrev pub number_in : Option Speaker → Option ℕ
number_in o = option_map (λ s. s.conv) o

abbrev pub numbers : List Speaker → List ℕ
numbers ss = map (λ s. s.conv) ss

-- of some speakers whoever has the conversation has it by this fid
abbrev pub AreMine : ℕ → ℕ → List Speaker → Type 0
AreMine number fid [] = Unit {0}
AreMine number fid (s ∷ ss) = (eqb number s.conv ≡ true → s.fid ≡ fid) × AreMine number fid ss

same_some : (n m : ℕ) → Some n ≡ Some m → n ≡ m
same_some n m e = cc

found_above : (fid n number : ℕ) (ss : List Speaker) → list_all (ltb n) (numbers ss) ≡ true → number_in (find (is_at fid) ss) ≡ Some number → n < number
found_above fid n number [] above e = absurd cc
found_above fid n number (s ∷ ss) above e =
    let parts = and_parts (ltb n s.conv) (list_all (ltb n) (numbers ss)) above in
    by_seat (is_at fid s) parts.0 e (found_above fid n number ss parts.1)
  where
    by_seat : (b : Bool) → ltb n s.conv ≡ true → number_in (cond b (Some s) (find (is_at fid) ss)) ≡ Some number → (number_in (find (is_at fid) ss) ≡ Some number → n < number) → n < number
    by_seat true first e more = omega (arith, ltb-true n s.conv first, same_some s.conv number e)
    by_seat false first e more = more e

none_mine : (fid n number : ℕ) (ss : List Speaker) → number ≡ n → list_all (ltb n) (numbers ss) ≡ true → AreMine number fid ss
none_mine fid n number [] e above = tt
none_mine fid n number (s ∷ ss) e above =
    let parts = and_parts (ltb n s.conv) (list_all (ltb n) (numbers ss)) above in
    ((λ same. absurd (omega (arith, e, ltb-true n s.conv parts.0, eqb-true number s.conv same))), none_mine fid n number ss e parts.1)

pub all_mine : (top fid number : ℕ) (ss : List Speaker) → Rise top (numbers ss) → number_in (find (is_at fid) ss) ≡ Some number → AreMine number fid ss
all_mine top fid number [] rise e = tt
all_mine top fid number (s ∷ ss) rise e =
    let parts = rise_parts top s.conv (numbers ss) rise in
    by_seat (is_at fid s) refl parts.above e (all_mine top fid number ss parts.rest)
  where
    by_seat : (b : Bool) → is_at fid s ≡ b → list_all (ltb s.conv) (numbers ss) ≡ true → number_in (cond b (Some s) (find (is_at fid) ss)) ≡ Some number → (number_in (find (is_at fid) ss) ≡ Some number → AreMine number fid ss) → AreMine number fid (s ∷ ss)
    by_seat true is above e more = ((λ _. eqb-true s.fid fid (and_parts (eqb s.conn 0) (eqb s.fid fid) is).1), none_mine fid s.conv number ss (sym (same_some s.conv number e)) above)
    by_seat false is above e more = ((λ same. absurd (omega (arith, found_above fid s.conv number ss above e, eqb-true number s.conv same))), more e)
