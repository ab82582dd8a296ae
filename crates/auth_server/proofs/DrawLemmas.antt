-- Words drawn one after the other.
use Rattle.std.proofs.Common.{ℕ, List, [], ◌∷◌, ◌++◌, Option, None, Some, Ok, Err, refl, sym, ap, ◌∙◌, append_assoc, arith}
use Rattle.wire_streams.specs.declared.words.WordFault.{WordFault}
use Rattle.wire_streams.specs.Words.{Draws}
use Rattle.auth_server.specs.Sessions.{DrawsAll, DrawsFew}

pub drawn_one : (a b : Option (List (List ℕ))) (word : List ℕ) → Draws a b (Ok word) → DrawsAll a b (word ∷ [])
drawn_one None b word h = tt
drawn_one (Some x) None word h = absurd h
drawn_one (Some x) (Some y) word h = h

pub drawn_none : (a b : Option (List (List ℕ))) (fault : WordFault) → Draws a b (Err fault) → DrawsAll a b []
drawn_none None b fault h = tt
drawn_none (Some x) None fault h = absurd h
drawn_none (Some x) (Some y) fault h = sym h

pub none_drawn : (a : Option (List (List ℕ))) → DrawsAll a a []
none_drawn None = tt
none_drawn (Some x) = refl

pub drawn_more : (a b c : Option (List (List ℕ))) (xs ys : List (List ℕ)) → DrawsAll a b xs → DrawsAll b c ys → DrawsAll a c (xs ++ ys)
drawn_more None b c xs ys p q = tt
drawn_more (Some x) None c xs ys p q = absurd p
drawn_more (Some x) (Some y) None xs ys p q = absurd q
drawn_more (Some x) (Some y) (Some z) xs ys p q = p ∙ (ap (λ (l : List (List ℕ)). xs ++ l) q ∙ sym (append_assoc xs ys z))

pub few_one : (a b c : Option (List (List ℕ))) (word : List ℕ) (fault : WordFault) → Draws a b (Ok word) → Draws b c (Err fault) → DrawsFew a c
few_one a b c word fault p q = record { drawn = word ∷ []; drew = drawn_more a b c (word ∷ []) [] (drawn_one a b word p) (drawn_none b c fault q); few = omega arith }

pub few_two : (a b c d : Option (List (List ℕ))) (word other : List ℕ) (fault : WordFault) → Draws a b (Ok word) → Draws b c (Ok other) → Draws c d (Err fault) → DrawsFew a d
few_two a b c d word other fault p q r = record {
  drawn = word ∷ other ∷ [];
  drew = drawn_more a b d (word ∷ []) (other ∷ []) (drawn_one a b word p) (drawn_more b c d (other ∷ []) [] (drawn_one b c other q) (drawn_none c d fault r));
  few = omega arith;
}
