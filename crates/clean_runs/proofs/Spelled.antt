-- What joined and sealed trees spell, from what their parts spell, and back.
use Rattle.std.proofs.Common.{◌≡◌, ℕ, ◌≤◌, List, ◌++◌, length, nat_lt, not, ◌&&◌, ◌==◌, Bool, true, false, Ok, Err, if◌then◌else◌, refl, ap, ◌∙◌}
use Rattle.std.proofs.lemmas.Bool.{eq-eqb, eqb-true, le-ltb, ltb-false}
use Rattle.sealing.specs.Sealing.{sealed}
use Rattle.symbolic_runs.specs.declared.spelling.SpellFault.TheVariants.{BadSeal}
use Rattle.symbolic_runs.specs.Trees.{Tree, Trees, seal, piece}
use Rattle.symbolic_runs.specs.Spellings.{Atoms, Spelling, and_then, seal_bytes, spelling, spelling_all}

pub all_spell : (atoms : Atoms) (t : Tree) (ts : Trees) (b rest : List ℕ) → spelling atoms t ≡ Ok b → spelling_all atoms ts ≡ Ok rest → spelling_all atoms (piece t ts) ≡ Ok (b ++ rest)
all_spell atoms t ts b rest here more = ap (λ r. and_then r (λ first. and_then (spelling_all atoms ts) (λ rest. Ok (first ++ rest)))) here ∙ ap (λ r. and_then r (λ rest. Ok (b ++ rest))) more

pub seal_spells : (atoms : Atoms) (k t : Tree) (key body : List ℕ) → spelling atoms k ≡ Ok key → spelling atoms t ≡ Ok body → length key ≡ 7 → 8 ≤ length body → spelling atoms (seal k t) ≡ Ok (sealed key body)
seal_spells atoms k t key body of_key of_body seven eight =
    ap (λ r. and_then r (λ key. and_then (spelling atoms t) (λ body. seal_bytes key body))) of_key
    ∙ ap (λ r. and_then r (λ body. seal_bytes key body)) of_body
    ∙ ap (λ (b : Bool). if b && not (nat_lt (length body) 8) then Ok (sealed key body) else Err BadSeal) (eq-eqb (length key) 7 seven)
    ∙ ap (λ (b : Bool). if not b then Ok (sealed key body) else Err BadSeal) (le-ltb (length body) 8 eight)

-- ---- and back

pub record Both (first second : Spelling) (b : List ℕ) : Type 0 where
  pub front : List ℕ
  pub rest : List ℕ
  pub of_front : first ≡ Ok front
  pub of_rest : second ≡ Ok rest
  pub parts : b ≡ front ++ rest

both_in : (first second : Spelling) (b : List ℕ) → and_then first (λ x. and_then second (λ rest. Ok (x ++ rest))) ≡ Ok b → Both first second b
both_in (Ok x) (Ok rest) b is = record { front = x; rest = rest; of_front = refl; of_rest = refl; parts = (let same : b ≡ x ++ rest = cc in same) }
both_in (Ok x) (Err fault) b is = absurd (cc)
both_in (Err fault) second b is = absurd (cc)

pub all_parts : (atoms : Atoms) (t : Tree) (ts : Trees) (b : List ℕ) → spelling_all atoms (piece t ts) ≡ Ok b → Both (spelling atoms t) (spelling_all atoms ts) b
all_parts atoms t ts b is = both_in (spelling atoms t) (spelling_all atoms ts) b is

pub record Sealed (of_key of_body : Spelling) (b : List ℕ) : Type 0 where
  pub key : List ℕ
  pub body : List ℕ
  pub key_is : of_key ≡ Ok key
  pub body_is : of_body ≡ Ok body
  pub seven : length key ≡ 7
  pub eight : 8 ≤ length body
  pub is : b ≡ sealed key body

seal_by : (key body b : List ℕ) (seven short : Bool) → (length key == 7) ≡ seven → nat_lt (length body) 8 ≡ short → (if seven && not short then Ok (sealed key body) else Err BadSeal) ≡ Ok b → Sealed (Ok key) (Ok body) b
seal_by key body b true false is_seven is_short is = record { key = key; body = body; key_is = refl; body_is = refl; seven = eqb-true (length key) 7 is_seven; eight = not_short (length body) is_short; is = (let same : b ≡ sealed key body = cc in same) }
  where
    not_short : (n : ℕ) → nat_lt n 8 ≡ false → 8 ≤ n
    not_short n is = ltb-false n 8 is
seal_by key body b true true is_seven is_short is = absurd (cc)
seal_by key body b false short is_seven is_short is = absurd (cc)

seal_in : (of_key of_body : Spelling) (b : List ℕ) → and_then of_key (λ key. and_then of_body (λ body. seal_bytes key body)) ≡ Ok b → Sealed of_key of_body b
seal_in (Ok key) (Ok body) b is = seal_by key body b (length key == 7) (nat_lt (length body) 8) refl refl is
seal_in (Ok key) (Err fault) b is = absurd (cc)
seal_in (Err fault) of_body b is = absurd (cc)

pub seal_parts : (atoms : Atoms) (k t : Tree) (b : List ℕ) → spelling atoms (seal k t) ≡ Ok b → Sealed (spelling atoms k) (spelling atoms t) b
seal_parts atoms k t b is = seal_in (spelling atoms k) (spelling atoms t) b is
