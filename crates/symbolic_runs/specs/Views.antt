-- The tree of a term. A term in the code lies in boxes and vectors; its tree is the same without them.
use Rattle.std.specs.Prelude.{List, [], ◌∷◌}
use Rattle.symbolic_runs.specs.Trees.{Tree, plain, nonce, challenge, long_key, ticket_key, junk_key, password, joined, seal, digest, Trees, none, piece}
use Rattle.symbolic_runs.specs.declared.term.Term.{Term, fold-Term}
use Rattle.symbolic_runs.specs.declared.term.Term.TheOpen.{Term-F, Terms-F}
use Rattle.symbolic_runs.specs.declared.term.Terms.{Terms, fold-Terms}

-- a list of trees as pieces
abbrev pub trees_of : List Tree → Trees
trees_of [] = none
trees_of (t ∷ ts) = piece t (trees_of ts)

-- pieces with one more behind them
abbrev pub and_last : Trees → Tree → Trees
and_last none last = piece last none
and_last (piece t ts) last = piece t (and_last ts last)

-- one level, with each term inside already seen as its tree
abbrev pub view_step : Term-F Tree Trees → Tree
view_step (Term-F.Pub bytes) = plain bytes
view_step (Term-F.Nonce number) = nonce number
view_step (Term-F.AsChal number) = challenge number
view_step (Term-F.LKey name) = long_key name
view_step (Term-F.SKey number) = ticket_key number
view_step (Term-F.Junk number) = junk_key number
view_step (Term-F.Pw name) = password name
view_step (Term-F.Cat pieces) = joined pieces
view_step (Term-F.Seal key body) = seal key.value body.value
view_step (Term-F.Mac kind secret text) = digest kind secret.value text.value

abbrev pub list_step : Terms-F Tree Trees → Trees
list_step terms = trees_of terms.list.items

-- the tree of a term, and the pieces of a list of terms
abbrev pub tree : Term → Tree
tree = fold-Term Tree Trees view_step list_step

abbrev pub trees : Terms → Trees
trees = fold-Terms Tree Trees view_step list_step
