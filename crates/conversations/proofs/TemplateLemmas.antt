-- A template of few attributes has room for what a role asks beside it.
use Rattle.std.proofs.Common.{◌≡◌, ◌≤◌, List, Bool, true, not, length, refl, arith}
use Rattle.std.specs.Prelude.{codes}
use Rattle.std.proofs.lemmas.Bool.{le-leb}
use Rattle.std.proofs.lemmas.List.Filters.{length-filter_both}
use Rattle.attr_tuples.specs.declared.attr.Attr.{Attr}
use Rattle.attr_tuples.specs.Attributes.{is_named}
use Rattle.roles.specs.Starts.{fits_start, others}

pub few_fit : (template : List Attr) → length template ≤ 32 → fits_start template ≡ true
few_fit template few =
    let named : Attr → Bool = λ a. is_named (codes "dom") a in
    le-leb (length (others template)) 32 (omega (arith, length-filter_both (λ (a : Attr). not (named a)) (λ (a : Attr). not (not (named a))) (λ (a : Attr). refl) template))
