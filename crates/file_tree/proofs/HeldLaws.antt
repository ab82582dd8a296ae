-- One change of a table of fids after the other.
use Rattle.std.proofs.Common.{◌≡◌, ℕ, ◌∷◌, cond, eqb, Option, refl, ap, ◌∙◌}
use Rattle.std.specs.Prelude.{◌≢◌}
use Rattle.std.proofs.lemmas.Bool.{ne_eqb}
use Rattle.file_tree.specs.declared.fids.Fid.{Fid}
use Rattle.file_tree.specs.Held.{fid_at, Becomes, Changes, StandsFor, Table}

pub stays : (before after : Table) (fid other : ℕ) (now : Option Fid) → Becomes before after fid now → fid ≢ other → fid_at after other ≡ fid_at before other
stays before after fid other now becomes apart = becomes.all other ∙ rw (ne_eqb fid other apart) refl

pub one_more : (changes : Changes) (before after : Table) (fid : ℕ) (now : Option Fid) → StandsFor changes before → Becomes before after fid now → StandsFor ((fid, now) ∷ changes) after
one_more changes before after fid now stands becomes = λ other. becomes.all other ∙ ap (λ (o : Option Fid). cond (eqb fid other) now o) (stands other)
