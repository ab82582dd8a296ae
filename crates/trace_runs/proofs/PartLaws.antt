-- Lists of pieces.
use Rattle.std.proofs.Common.{◌≡◌, ℕ, zero, suc, refl, sym, ◌∙◌, [], ◌∷◌, List, ap, map, Some, slice_get}
use Rattle.symbolic_runs.specs.declared.term.Term.{Term, Cat}
use Rattle.symbolic_runs.specs.declared.term.Terms.{Terms}
use Rattle.symbolic_runs.specs.Trees.{Tree, plain, nonce, challenge, long_key, ticket_key, junk_key, password, joined, seal, digest, Trees, none, piece, piece_at}
use Rattle.symbolic_runs.specs.Gifts.{or_nothing, part}
use Rattle.symbolic_runs.specs.Views.{tree, trees, trees_of}
use Rattle.symbolic_runs.proofs.TreeLemmas.{tree-joined}
use Rattle.trace_runs.specs.Parts.{list_of, pieces_in}

pub listed : (ts : List Tree) → list_of (trees_of ts) ≡ ts
listed [] = refl
listed (t ∷ ts) = ap (λ more. t ∷ more) (listed ts)

pub joined_again : (ts : Trees) → trees_of (list_of ts) ≡ ts
joined_again none = refl
joined_again (piece t ts) = ap (λ more. piece t more) (joined_again ts)

-- the pieces of a joined term
pub pieces_are : (x : Term) (p : Terms) (xs : List Term) → x ≡ Cat p → trees_of (map tree xs) ≡ trees p → Some (map tree xs) ≡ pieces_in (tree x)
pieces_are x p xs e f =
    let whole : tree x ≡ joined (trees p) = ap tree e ∙ tree-joined p in
    rw (whole, ← f, listed (map tree xs)) refl

-- a tree with pieces is what they join to
pub joined_of : (t : Tree) (ts : List Tree) → Some ts ≡ pieces_in t → t ≡ joined (trees_of ts)
joined_of (joined more) ts e =
    let is : ts ≡ list_of more = cc in
    rw is (ap joined (sym (joined_again more)))
joined_of (plain b) ts e = absurd (cc)
joined_of (nonce n) ts e = absurd (cc)
joined_of (challenge n) ts e = absurd (cc)
joined_of (long_key n) ts e = absurd (cc)
joined_of (ticket_key n) ts e = absurd (cc)
joined_of (junk_key n) ts e = absurd (cc)
joined_of (password n) ts e = absurd (cc)
joined_of (seal k b) ts e = absurd (cc)
joined_of (digest k p b) ts e = absurd (cc)

found_piece : (ts : Trees) (index : ℕ) → slice_get (list_of ts) index ≡ piece_at ts index
found_piece none index = refl
found_piece (piece t ts) zero = refl
found_piece (piece t ts) (suc index) = found_piece ts index

pub piece_found : (t : Tree) (ts : List Tree) (index : ℕ) → Some ts ≡ pieces_in t → or_nothing (slice_get ts index) ≡ part t index
piece_found (joined more) ts index e =
    let is : ts ≡ list_of more = cc in
    rw is (ap or_nothing (found_piece more index))
piece_found (plain b) ts index e = absurd (cc)
piece_found (nonce n) ts index e = absurd (cc)
piece_found (challenge n) ts index e = absurd (cc)
piece_found (long_key n) ts index e = absurd (cc)
piece_found (ticket_key n) ts index e = absurd (cc)
piece_found (junk_key n) ts index e = absurd (cc)
piece_found (password n) ts index e = absurd (cc)
piece_found (seal k b) ts index e = absurd (cc)
piece_found (digest k p b) ts index e = absurd (cc)
