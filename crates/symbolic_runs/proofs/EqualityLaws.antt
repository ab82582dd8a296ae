-- That the comparison of trees decides whether they are equal.
use Rattle.std.proofs.Common.{◌≡◌, ℕ, List, true, ◌&&◌, eqb, refl, ap}
use Rattle.std.proofs.lemmas.Bool.{and_parts, and_from, eq-eqb, eqb-true}
use Rattle.std.proofs.lemmas.Slice.Eq.{bytes_eq-Decides}
use Rattle.std.specs.Str.{bytes_eq}
use Rattle.symbolic_runs.specs.declared.kind.MacKind.{MacKind}
use Rattle.symbolic_runs.specs.declared.kind.MacKind.TheVariants.{Apop, Cram}
use Rattle.symbolic_runs.specs.Trees.{Tree, plain, nonce, challenge, long_key, ticket_key, junk_key, password, joined, seal, digest, Trees, none, piece, same_tree, same_trees, same_kind}

same_bytes : (a b : List ℕ) → bytes_eq a b ≡ true → a ≡ b
same_bytes a b e = (bytes_eq-Decides a b).0 e

bytes_themselves : (a : List ℕ) → bytes_eq a a ≡ true
bytes_themselves a = (bytes_eq-Decides a a).1 refl

number_itself : (a : ℕ) → eqb a a ≡ true
number_itself a = eq-eqb a a refl

equal_kinds : (a b : MacKind) → same_kind a b ≡ true → a ≡ b
equal_kinds Apop Apop e = refl
equal_kinds Apop Cram e = absurd (cc)
equal_kinds Cram Apop e = absurd (cc)
equal_kinds Cram Cram e = refl

kind_itself : (a : MacKind) → same_kind a a ≡ true
kind_itself Apop = refl
kind_itself Cram = refl

equal_digests : (i j : MacKind) (p q a b : Tree) → i ≡ j → p ≡ q → a ≡ b → digest i p a ≡ digest j q b
equal_digests i j p q a b e f g = rw e (rw f (rw g refl))

equal_seals : (k l a b : Tree) → k ≡ l → a ≡ b → seal k a ≡ seal l b
equal_seals k l a b f g = rw f (rw g refl)

equal_pieces : (a b : Tree) (more others : Trees) → a ≡ b → more ≡ others → piece a more ≡ piece b others
equal_pieces a b more others f g = rw f (rw g refl)

mutual
  pub equal_trees : (a b : Tree) → same_tree a b ≡ true → a ≡ b
  equal_trees (plain a) (plain b) e = ap plain (same_bytes a b e)
  equal_trees (plain a) (nonce b) e = absurd (cc)
  equal_trees (plain a) (challenge b) e = absurd (cc)
  equal_trees (plain a) (long_key b) e = absurd (cc)
  equal_trees (plain a) (ticket_key b) e = absurd (cc)
  equal_trees (plain a) (junk_key b) e = absurd (cc)
  equal_trees (plain a) (password b) e = absurd (cc)
  equal_trees (plain a) (joined b) e = absurd (cc)
  equal_trees (plain a) (seal bk bt) e = absurd (cc)
  equal_trees (plain a) (digest bk bz bt) e = absurd (cc)
  equal_trees (nonce a) (plain b) e = absurd (cc)
  equal_trees (nonce a) (nonce b) e = ap nonce (eqb-true a b e)
  equal_trees (nonce a) (challenge b) e = absurd (cc)
  equal_trees (nonce a) (long_key b) e = absurd (cc)
  equal_trees (nonce a) (ticket_key b) e = absurd (cc)
  equal_trees (nonce a) (junk_key b) e = absurd (cc)
  equal_trees (nonce a) (password b) e = absurd (cc)
  equal_trees (nonce a) (joined b) e = absurd (cc)
  equal_trees (nonce a) (seal bk bt) e = absurd (cc)
  equal_trees (nonce a) (digest bk bz bt) e = absurd (cc)
  equal_trees (challenge a) (plain b) e = absurd (cc)
  equal_trees (challenge a) (nonce b) e = absurd (cc)
  equal_trees (challenge a) (challenge b) e = ap challenge (eqb-true a b e)
  equal_trees (challenge a) (long_key b) e = absurd (cc)
  equal_trees (challenge a) (ticket_key b) e = absurd (cc)
  equal_trees (challenge a) (junk_key b) e = absurd (cc)
  equal_trees (challenge a) (password b) e = absurd (cc)
  equal_trees (challenge a) (joined b) e = absurd (cc)
  equal_trees (challenge a) (seal bk bt) e = absurd (cc)
  equal_trees (challenge a) (digest bk bz bt) e = absurd (cc)
  equal_trees (long_key a) (plain b) e = absurd (cc)
  equal_trees (long_key a) (nonce b) e = absurd (cc)
  equal_trees (long_key a) (challenge b) e = absurd (cc)
  equal_trees (long_key a) (long_key b) e = ap long_key (same_bytes a b e)
  equal_trees (long_key a) (ticket_key b) e = absurd (cc)
  equal_trees (long_key a) (junk_key b) e = absurd (cc)
  equal_trees (long_key a) (password b) e = absurd (cc)
  equal_trees (long_key a) (joined b) e = absurd (cc)
  equal_trees (long_key a) (seal bk bt) e = absurd (cc)
  equal_trees (long_key a) (digest bk bz bt) e = absurd (cc)
  equal_trees (ticket_key a) (plain b) e = absurd (cc)
  equal_trees (ticket_key a) (nonce b) e = absurd (cc)
  equal_trees (ticket_key a) (challenge b) e = absurd (cc)
  equal_trees (ticket_key a) (long_key b) e = absurd (cc)
  equal_trees (ticket_key a) (ticket_key b) e = ap ticket_key (eqb-true a b e)
  equal_trees (ticket_key a) (junk_key b) e = absurd (cc)
  equal_trees (ticket_key a) (password b) e = absurd (cc)
  equal_trees (ticket_key a) (joined b) e = absurd (cc)
  equal_trees (ticket_key a) (seal bk bt) e = absurd (cc)
  equal_trees (ticket_key a) (digest bk bz bt) e = absurd (cc)
  equal_trees (junk_key a) (plain b) e = absurd (cc)
  equal_trees (junk_key a) (nonce b) e = absurd (cc)
  equal_trees (junk_key a) (challenge b) e = absurd (cc)
  equal_trees (junk_key a) (long_key b) e = absurd (cc)
  equal_trees (junk_key a) (ticket_key b) e = absurd (cc)
  equal_trees (junk_key a) (junk_key b) e = ap junk_key (eqb-true a b e)
  equal_trees (junk_key a) (password b) e = absurd (cc)
  equal_trees (junk_key a) (joined b) e = absurd (cc)
  equal_trees (junk_key a) (seal bk bt) e = absurd (cc)
  equal_trees (junk_key a) (digest bk bz bt) e = absurd (cc)
  equal_trees (password a) (plain b) e = absurd (cc)
  equal_trees (password a) (nonce b) e = absurd (cc)
  equal_trees (password a) (challenge b) e = absurd (cc)
  equal_trees (password a) (long_key b) e = absurd (cc)
  equal_trees (password a) (ticket_key b) e = absurd (cc)
  equal_trees (password a) (junk_key b) e = absurd (cc)
  equal_trees (password a) (password b) e = ap password (same_bytes a b e)
  equal_trees (password a) (joined b) e = absurd (cc)
  equal_trees (password a) (seal bk bt) e = absurd (cc)
  equal_trees (password a) (digest bk bz bt) e = absurd (cc)
  equal_trees (joined a) (plain b) e = absurd (cc)
  equal_trees (joined a) (nonce b) e = absurd (cc)
  equal_trees (joined a) (challenge b) e = absurd (cc)
  equal_trees (joined a) (long_key b) e = absurd (cc)
  equal_trees (joined a) (ticket_key b) e = absurd (cc)
  equal_trees (joined a) (junk_key b) e = absurd (cc)
  equal_trees (joined a) (password b) e = absurd (cc)
  equal_trees (joined a) (joined b) e = ap joined (equal_lists a b e)
  equal_trees (joined a) (seal bk bt) e = absurd (cc)
  equal_trees (joined a) (digest bk bz bt) e = absurd (cc)
  equal_trees (seal ak at) (plain b) e = absurd (cc)
  equal_trees (seal ak at) (nonce b) e = absurd (cc)
  equal_trees (seal ak at) (challenge b) e = absurd (cc)
  equal_trees (seal ak at) (long_key b) e = absurd (cc)
  equal_trees (seal ak at) (ticket_key b) e = absurd (cc)
  equal_trees (seal ak at) (junk_key b) e = absurd (cc)
  equal_trees (seal ak at) (password b) e = absurd (cc)
  equal_trees (seal ak at) (joined b) e = absurd (cc)
  equal_trees (seal ak at) (seal bk bt) e = equal_seals ak bk at bt (equal_trees ak bk (and_parts (same_tree ak bk) (same_tree at bt) e).0) (equal_trees at bt (and_parts (same_tree ak bk) (same_tree at bt) e).1)
  equal_trees (seal ak at) (digest bk bz bt) e = absurd (cc)
  equal_trees (digest ak az at) (plain b) e = absurd (cc)
  equal_trees (digest ak az at) (nonce b) e = absurd (cc)
  equal_trees (digest ak az at) (challenge b) e = absurd (cc)
  equal_trees (digest ak az at) (long_key b) e = absurd (cc)
  equal_trees (digest ak az at) (ticket_key b) e = absurd (cc)
  equal_trees (digest ak az at) (junk_key b) e = absurd (cc)
  equal_trees (digest ak az at) (password b) e = absurd (cc)
  equal_trees (digest ak az at) (joined b) e = absurd (cc)
  equal_trees (digest ak az at) (seal bk bt) e = absurd (cc)
  equal_trees (digest ak az at) (digest bk bz bt) e = let parts = and_parts (same_kind ak bk) (same_tree az bz && same_tree at bt) e in
      let both = and_parts (same_tree az bz) (same_tree at bt) parts.1 in
      equal_digests ak bk az bz at bt (equal_kinds ak bk parts.0) (equal_trees az bz both.0) (equal_trees at bt both.1)

  pub equal_lists : (a b : Trees) → same_trees a b ≡ true → a ≡ b
  equal_lists none none e = refl
  equal_lists none (piece b others) e = absurd (cc)
  equal_lists (piece a more) none e = absurd (cc)
  equal_lists (piece a more) (piece b others) e =
      let parts = and_parts (same_tree a b) (same_trees more others) e in
      equal_pieces a b more others (equal_trees a b parts.0) (equal_lists more others parts.1)

mutual
  pub tree_itself : (a : Tree) → same_tree a a ≡ true
  tree_itself (plain a) = bytes_themselves a
  tree_itself (nonce a) = number_itself a
  tree_itself (challenge a) = number_itself a
  tree_itself (long_key a) = bytes_themselves a
  tree_itself (ticket_key a) = number_itself a
  tree_itself (junk_key a) = number_itself a
  tree_itself (password a) = bytes_themselves a
  tree_itself (joined a) = list_itself a
  tree_itself (seal k t) = and_from (same_tree k k) (same_tree t t) (tree_itself k) (tree_itself t)
  tree_itself (digest i p t) = and_from (same_kind i i) (same_tree p p && same_tree t t) (kind_itself i) (and_from (same_tree p p) (same_tree t t) (tree_itself p) (tree_itself t))

  pub list_itself : (a : Trees) → same_trees a a ≡ true
  list_itself none = refl
  list_itself (piece a more) = and_from (same_tree a a) (same_trees more more) (tree_itself a) (list_itself more)

pub tree_equals : (a b : Tree) → a ≡ b → same_tree a b ≡ true
tree_equals a b e = rw e (tree_itself b)
