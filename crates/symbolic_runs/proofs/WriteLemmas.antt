-- What a call that appends a spelling has written, part by part.
use Rattle.std.proofs.Common.{◌≡◌, ℕ, ◌+◌, ◌-◌, ◌<◌, ◌≤◌, ◌++◌, length, map, take, drop, List, refl, sym, ap, ◌∙◌, subst, Option, Result, Ok, Err, slice_index_or, arith, append_assoc}
use Rattle.std.proofs.Math.Seq.{take-append_seam, drop-append_seam}
use Rattle.std.proofs.lemmas.List.{take-append-le, at_drop_more, length-append, length-take, length-drop, take_all}
use Rattle.symbolic_runs.specs.declared.kind.MacKind.{MacKind}
use Rattle.symbolic_runs.specs.declared.spelling.SpellFault.{SpellFault}
use Rattle.symbolic_runs.specs.declared.term.Term.{Term}
use Rattle.symbolic_runs.specs.Trees.{Tree, Trees, piece}
use Rattle.symbolic_runs.specs.Views.{tree, trees_of}
use Rattle.symbolic_runs.specs.Spellings.{Atoms, Spelling, spelling, spelling_all, and_then, seal_bytes, digest_bytes}
use Rattle.symbolic_runs.specs.Answers.{behind, key_option, Writes}

Ok_injective : {A E : Type 0} (x y : A) → ◌≡◌ {A = Result A E} (Ok x) (Ok y) → x ≡ y
Ok_injective x y e = cc

rest_taken : (m : ℕ) (l : List ℕ) → take (length l - m) (drop m l) ≡ drop m l
rest_taken m l = take_all (length l - m) (drop m l) (omega (arith, length-drop m l))

-- a seal: the key was spelled and taken back, and then the body was spelled in its place
pub seal_written : (old l1 l2 l3 after : List ℕ) (sk sb : Spelling) (key : Option (List ℕ)) (r : Result Unit SpellFault) (m : ℕ) → m ≡ length old →
    behind old sk ≡ Ok l1 → key ≡ key_option (take (length l1 - m) (drop m l1)) → l2 ≡ take m l1 → behind l2 sb ≡ Ok l3 →
    ((bytes : List ℕ) → key ≡ key_option bytes → Writes (seal_bytes bytes (drop m l3)) (take m l3) r after) →
    Writes (and_then sk (λ k. and_then sb (λ body. seal_bytes k body))) old r after
seal_written old l1 l2 l3 after (Err f) sb key r m e e1 ek e2 e3 w = absurd (cc)
seal_written old l1 l2 l3 after (Ok k) (Err f) key r m e e1 ek e2 e3 w = absurd (cc)
seal_written old l1 l2 l3 after (Ok k) (Ok b) key r m e e1 ek e2 e3 w =
    let is_l1 = Ok_injective (old ++ k) l1 e1 in
    let is_l2 : l2 ≡ old = e2 ∙ ap (take m) (sym is_l1) ∙ ap (λ n. take n (old ++ k)) e ∙ take-append_seam old k in
    let is_l3 : old ++ b ≡ l3 = ap (λ l. l ++ b) (sym is_l2) ∙ Ok_injective (l2 ++ b) l3 e3 in
    let is_k : drop m l1 ≡ k = ap (drop m) (sym is_l1) ∙ ap (λ n. drop n (old ++ k)) e ∙ drop-append_seam old k in
    let is_b : drop m l3 ≡ b = ap (drop m) (sym is_l3) ∙ ap (λ n. drop n (old ++ b)) e ∙ drop-append_seam old b in
    let is_old : take m l3 ≡ old = ap (take m) (sym is_l3) ∙ ap (λ n. take n (old ++ b)) e ∙ take-append_seam old b in
    subst (λ (x : List ℕ). Writes (seal_bytes k x) old r after) is_b
    (subst (λ (x : List ℕ). Writes (seal_bytes k (drop m l3)) x r after) is_old (w k (ek ∙ ap key_option (rest_taken m l1 ∙ is_k))))

between : (old s l1 : List ℕ) (m k : ℕ) → m ≡ length old → old ++ s ≡ l1 → k ≡ length l1 → k - m ≡ length s
between old s l1 m k e is_l1 ek = omega (arith, e, ek, ap length is_l1, length-append old s)

-- a digest: secret and text were spelled one behind the other, and the digits took their place
pub digest_written : (old l1 l2 l3 after secret text digits : List ℕ) (kind : MacKind) (sp st : Spelling) (r : Result Unit SpellFault) (m k : ℕ) → m ≡ length old →
    behind old sp ≡ Ok l1 → k ≡ length l1 → behind l1 st ≡ Ok l2 → secret ≡ take (k - m) (drop m l2) → text ≡ take (length l2 - k) (drop k l2) →
    digits ≡ digest_bytes kind secret text → l3 ≡ take m l2 → Writes (Ok digits) l3 r after →
    Writes (and_then sp (λ s. and_then st (λ t. Ok (digest_bytes kind s t)))) old r after
digest_written old l1 l2 l3 after secret text digits kind (Err f) st r m k e e1 ek e2 es et ed e3 w = absurd (cc)
digest_written old l1 l2 l3 after secret text digits kind (Ok s) (Err f) r m k e e1 ek e2 es et ed e3 w = absurd (cc)
digest_written old l1 l2 l3 after secret text digits kind (Ok s) (Ok t) r m k e e1 ek e2 es et ed e3 w =
    let is_l1 = Ok_injective (old ++ s) l1 e1 in
    let is_l2 : l2 ≡ (old ++ s) ++ t = sym (Ok_injective (l1 ++ t) l2 e2) ∙ ap (λ l. l ++ t) (sym is_l1) in
    let deep : l2 ≡ old ++ (s ++ t) = is_l2 ∙ append_assoc old s t in
    let is_text : text ≡ t = et ∙ rest_taken k l2 ∙ ap (drop k) is_l2 ∙ ap (λ n. drop n ((old ++ s) ++ t)) (ek ∙ ap length (sym is_l1)) ∙ drop-append_seam (old ++ s) t in
    let rest : drop m l2 ≡ s ++ t = ap (drop m) deep ∙ ap (λ n. drop n (old ++ (s ++ t))) e ∙ drop-append_seam old (s ++ t) in
    let is_secret : secret ≡ s = es ∙ ap (take (k - m)) rest ∙ ap (λ n. take n (s ++ t)) (between old s l1 m k e is_l1 ek) ∙ take-append_seam s t in
    let is_old : l3 ≡ old = e3 ∙ ap (take m) deep ∙ ap (λ n. take n (old ++ (s ++ t))) e ∙ take-append_seam old (s ++ t) in
    let is_digits : digits ≡ digest_bytes kind s t = ed ∙ ap (λ x. digest_bytes kind x text) is_secret ∙ ap (digest_bytes kind s) is_text in
    subst (λ (x : List ℕ). Writes (Ok x) old r after) is_digits (subst (λ (x : List ℕ). Writes (Ok digits) x r after) is_old w)

-- one piece more
pub further : (cur first : List ℕ) (all : Spelling) → behind (cur ++ first) all ≡ behind cur (and_then all (λ rest. Ok (first ++ rest)))
further cur first (Ok rest) = ap Ok (append_assoc cur first rest)
further cur first (Err f) = refl

pub piece_written : (atoms : Atoms) (t : Tree) (ts : Trees) (cur new : List ℕ) (s : Spelling) → s ≡ spelling atoms t → behind cur s ≡ Ok new → behind new (spelling_all atoms ts) ≡ behind cur (spelling_all atoms (piece t ts))
piece_written atoms t ts cur new (Err f) es e = absurd (cc)
piece_written atoms t ts cur new (Ok first) es e =
    ap (λ l. behind l (spelling_all atoms ts)) (sym (Ok_injective (cur ++ first) new e))
    ∙ further cur first (spelling_all atoms ts)
    ∙ ap (λ s. behind cur (and_then s (λ f. and_then (spelling_all atoms ts) (λ rest. Ok (f ++ rest))))) es

pub piece_behind : (atoms : Atoms) (ps : List Term) (i : ℕ) (x : Term) (cur new : List ℕ) → i < length ps → x ≡ slice_index_or ps i x → behind cur (spelling atoms (tree x)) ≡ Ok new →
    behind new (spelling_all atoms (trees_of (map tree (drop (i + 1) ps)))) ≡ behind cur (spelling_all atoms (trees_of (map tree (drop i ps))))
piece_behind atoms ps i x cur new p e w =
    piece_written atoms (tree x) (trees_of (map tree (drop (i + 1) ps))) cur new (spelling atoms (tree x)) refl w
    ∙ ap (λ y. behind cur (spelling_all atoms (piece (tree y) (trees_of (map tree (drop (i + 1) ps)))))) e
    ∙ sym (at_drop_more (λ ys. behind cur (spelling_all atoms (trees_of (map tree ys)))) ps i x p)

long_enough : (n : ℕ) (cur init : List ℕ) → n ≡ length init → take n cur ≡ init → n ≤ length cur
long_enough n cur init e f = omega (arith, e, ap length f, length-take n cur)

pub still_in_front : (init cur new : List ℕ) (s : Spelling) → take (length init) cur ≡ init → behind cur s ≡ Ok new → take (length init) new ≡ init
still_in_front init cur new (Err f) e w = absurd (cc)
still_in_front init cur new (Ok first) e w =
    ap (take (length init)) (sym (Ok_injective (cur ++ first) new w)) ∙ take-append-le (length init) cur first (long_enough (length init) cur init refl e) ∙ e
