-- What prompters say that consent so often.
use Rattle.std.proofs.Common.{◌≡◌, ◌<◌, ◌≤◌, ◌-◌, ℕ, zero, suc, List, [], ◌∷◌, true, false, eqb, cond, length, refl, ap, ◌∙◌, inl, inr, arith}
use Rattle.std.proofs.lemmas.Bool.{cases_Bool, eqb-true}
use Rattle.attr_tuples.specs.declared.attr.Attr.{Attr}
use Rattle.attr_tuples.specs.Matching.{matches}
use Rattle.side_files.specs.declared.question.Question.{Question}
use Rattle.prompters.specs.declared.prompter.Say.{Say}
use Rattle.prompters.specs.declared.prompter.Say.TheVariants.{Yes, No}
use Rattle.prompters.specs.Manners.{Manner, considered, said}
use Rattle.prompters.specs.Chains.{after_answer, after_answers, later_after, unless_spent, word_of}
use Rattle.prompters.specs.Simple.{consenting, denying, left_after, limited}

-- every tuple matches the empty template
all_match : (tuple : List Attr) → matches [] tuple ≡ true
unfolding matches
all_match tuple = refl

some_left : (n : ℕ) → eqb (suc n) 0 ≡ false
some_left n = elim (cases_Bool (eqb (suc n) 0)) [
  | inl t ↦ absurd (let same = eqb-true (suc n) 0 t in omega (arith, same))
  | inr f ↦ f
]

less_one : (n : ℕ) → suc n - 1 ≡ n
less_one n = omega arith

left_one : (n : ℕ) (q : Question) → left_after [] (suc n) q ≡ n
left_one n q = rw (some_left n, all_match q.tuple) (less_one n)

says_yes : (n : ℕ) (q : Question) → said (limited [] (suc n)) q ≡ Yes
says_yes n q = rw (some_left n, all_match q.tuple) refl

considered_one : (n : ℕ) (q : Question) → considered q (limited [] (suc n)) ≡ limited [] n
considered_one n q = ap (limited []) (left_one n q)

-- a question that is consented to takes one consent away
after_one : (n : ℕ) (q : Question) → after_answer q (consenting (suc n)) ≡ unless_spent (limited [] n) (denying ∷ [])
after_one n q =
    ap (λ (m : Manner). unless_spent m (later_after (said (limited [] (suc n)) q) (denying ∷ []) (after_answer q (denying ∷ [])))) (considered_one n q)
    ∙ ap (λ (say : Say). unless_spent (limited [] n) (later_after say (denying ∷ []) (after_answer q (denying ∷ [])))) (says_yes n q)

unless_some : (n : ℕ) → unless_spent (limited [] (suc n)) (denying ∷ []) ≡ consenting (suc n)
unless_some n = rw (some_left n) refl

after_last : (q : Question) → after_answer q (consenting (suc zero)) ≡ denying ∷ []
after_last q = after_one zero q

after_more : (n : ℕ) (q : Question) → after_answer q (consenting (suc (suc n))) ≡ consenting (suc n)
after_more n q = after_one (suc n) q ∙ unless_some n

-- who says no goes on to say no
denied : (older : List Question) (q : Question) → word_of q (after_answers older (denying ∷ [])) ≡ No
denied [] q = refl
denied (o ∷ older) q = denied older q

says_no : (older : List Question) (q : Question) → word_of q (after_answers older (consenting zero)) ≡ No
says_no [] q = refl
says_no (o ∷ older) q = denied older q

pub yes_first : (consents : ℕ) (older : List Question) (q : Question) → length older < consents → word_of q (after_answers older (consenting consents)) ≡ Yes
yes_first zero older q h = absurd (omega (arith, h))
yes_first (suc n) [] q h = rw (says_yes n q) refl
yes_first (suc zero) (o ∷ older) q h = absurd (omega (arith, h))
yes_first (suc (suc n)) (o ∷ older) q h = ap (λ (chain : List Manner). word_of q (after_answers older chain)) (after_more n o) ∙ yes_first (suc n) older q (omega (arith, h))

pub no_later : (consents : ℕ) (older : List Question) (q : Question) → consents ≤ length older → word_of q (after_answers older (consenting consents)) ≡ No
no_later zero older q h = says_no older q
no_later (suc n) [] q h = absurd (omega (arith, h))
no_later (suc zero) (o ∷ older) q h = ap (λ (chain : List Manner). word_of q (after_answers older chain)) (after_last o) ∙ denied older q
no_later (suc (suc n)) (o ∷ older) q h = ap (λ (chain : List Manner). word_of q (after_answers older chain)) (after_more n o) ∙ no_later (suc n) older q (omega (arith, h))
