use Rattle.std.proofs.Common.{sym, ap, ◌∙◌, Some, option_map}
use Rattle.std.proofs.lemmas.List.Quantifiers.{position-Some}
use Rattle.symbolic_runs.specs.Views.{tree}
use Rattle.symbolic_runs.proofs.ReadingLemmas.{holds, bytes_at, no_bytes_found}
use Rattle.symbolic_runs.proofs.reading.Reading.bytes_of.Goals as goal

pub returns-in_err-place : goal.returns-in_err-place
returns-in_err-place c =
    let t = tree c.args.atom.now in
    ap (option_map (λ b. b.now)) c.from_residual.ensures ∙ sym (no_bytes_found t c.args.self.now.list.items (sym c.place_of.ensures ∙ c.in_err-place.was))

pub returns : goal.returns
returns c =
    let t = tree c.args.atom.now in
    let xs = c.args.self.now.list.items in
    let found = position-Some (holds t) xs c.in_ok-place.place c.index.result.now (sym c.place_of.ensures ∙ c.in_ok-place.was) in
    ap Some (c.as_slice.ensures ∙ ap (λ e. e.bytes) c.index.ensures) ∙ sym (bytes_at t xs c.in_ok-place.place c.index.result.now found.0 found.1 found.2)
