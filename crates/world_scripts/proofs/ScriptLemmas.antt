-- A script made round by round.
use Rattle.std.proofs.Common.{◌≡◌, ℕ, zero, suc, ◌+◌, ◌*◌, List, ◌∷◌, ◌++◌, length, append_assoc, append-nil, refl, sym, ap, ◌∙◌, arith}
use Rattle.std.proofs.lemmas.Grind.{flat_map-append}
use Rattle.rand_chacha.specs.ChaCha.{ChaCha}
use Rattle.world_scripts.specs.Draws.{draw, draws, generator_of}
use Rattle.world_scripts.specs.Lines.{ScriptLine}
use Rattle.world_scripts.specs.declared.round.Drawn.{Drawn}
use Rattle.world_scripts.specs.Rounds.{kind_of, recorded, round_lines}
use Rattle.world_scripts.specs.Generated.{drawn, gen_text, line, lines_text, opening, rounds_from}

pub text_append : (front back : List ScriptLine) → lines_text (front ++ back) ≡ lines_text front ++ lines_text back
text_append front back = flat_map-append line front back

pub length-draws : (count : ℕ) (rng : ChaCha) → length (draws count rng) ≡ count
length-draws zero rng = refl
length-draws (suc count) rng = ap suc (length-draws count (draw rng).1)

-- what was made, and the rounds that are left, are the whole
pub record Makes (whole made : List ℕ) (left round before first : ℕ) (words : List (List ℕ)) : Type 0 where
  pub is : made ++ lines_text (rounds_from left round before first words) ≡ whole
  pub long : length words ≡ 5 * left

one_more : (n round before first : ℕ) (words more : List (List ℕ)) (d : Drawn) → words ≡ d.client ∷ d.server ∷ d.first ∷ d.second ∷ d.third ∷ more
    → rounds_from (suc n) round before first words ≡ round_lines round before first d ++ rounds_from n (round + 1) first (first + recorded (kind_of round)) more
one_more n round before first words more d is = ap (rounds_from (suc n) round before first) is

pub makes_more : (whole made now : List ℕ) (left next round before first later : ℕ) (words more : List (List ℕ)) (d : Drawn) → Makes whole made left round before first words → left ≡ suc next
    → later ≡ first + recorded (kind_of round) → words ≡ d.client ∷ d.server ∷ d.first ∷ d.second ∷ d.third ∷ more → now ≡ made ++ lines_text (round_lines round before first d)
    → Makes whole now next (round + 1) first later more
makes_more whole made now left next round before first later words more d m one then_first is put =
    let rest : List ScriptLine = rounds_from next (round + 1) first (first + recorded (kind_of round)) more in
    let opened : rounds_from left round before first words ≡ round_lines round before first d ++ rest =
    ap (λ (n : ℕ). rounds_from n round before first words) one ∙ one_more next round before first words more d is in
    record {
      is =
          ap (λ (n : ℕ). now ++ lines_text (rounds_from next (round + 1) first n more)) then_first
          ∙ (ap (λ (l : List ℕ). l ++ lines_text rest) put
          ∙ (append_assoc made (lines_text (round_lines round before first d)) (lines_text rest)
          ∙ (ap (λ (l : List ℕ). made ++ l) (sym (text_append (round_lines round before first d) rest) ∙ ap lines_text (sym opened))
          ∙ m.is)));
      long = omega (arith, m.long, one, ap (length {A = List ℕ}) is);
    }

-- the whole, before any round
pub makes_none : (number rounds count left : ℕ) (words : List (List ℕ)) (made : List ℕ) → made ≡ lines_text opening → words ≡ draws count (generator_of number) → count ≡ 5 * rounds → left ≡ rounds
    → Makes (gen_text number rounds) made left 0 0 0 words
unfolding gen_text
makes_none number rounds count left words made is drawn five same =
    let all : words ≡ draws (5 * rounds) (generator_of number) = drawn ∙ ap (λ (n : ℕ). draws n (generator_of number)) five in
    let long : length words ≡ 5 * rounds = ap length all ∙ length-draws (5 * rounds) (generator_of number) in
    record {
      is =
          ap (λ (n : ℕ). made ++ lines_text (rounds_from n 0 0 0 words)) same
          ∙ (ap (λ (l : List ℕ). l ++ lines_text (rounds_from rounds 0 0 0 words)) is
          ∙ (sym (text_append opening (rounds_from rounds 0 0 0 words))
          ∙ ap (λ (ws : List (List ℕ)). lines_text (opening ++ rounds_from rounds 0 0 0 ws)) all));
      long = long ∙ ap (λ (n : ℕ). 5 * n) (sym same);
    }

-- behind the last
pub makes_all : (whole made : List ℕ) (left round before first : ℕ) (words : List (List ℕ)) → Makes whole made left round before first words → left ≡ 0 → made ≡ whole
makes_all whole made left round before first words m none =
    sym (append-nil made) ∙ (ap (λ (n : ℕ). made ++ lines_text (rounds_from n round before first words)) (sym none) ∙ m.is)
