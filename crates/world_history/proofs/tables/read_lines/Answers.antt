use Rattle.std.proofs.Common.{◌∙◌, ap}
use Rattle.world_history.specs.Told.{ends_tables, gathered_behind, nothing, told}
use Rattle.world_history.proofs.TextLemmas.{gathered_of, tables_told}
use Rattle.world_history.proofs.tables.read_lines.Goals as goal

pub returns : goal.returns
returns c =
    let g = c.gathering.inside in
    let keys = c.in_ok-keys in
    let speaks = c.in_ok-speaks in
    tables_told c.args.lines.now (gathered_of g.keys g.speaks) c.as_slice.result.now c.as_slice-2.result.now keys.keys speaks.speaks keys.bad_key speaks.bad_speak
    c.rest.ensures.whole (c.gathering.view_is ∙ (c.in_ok-gathering.ensures ∙ ap (λ ls. gathered_behind nothing (told ends_tables ls)) c.rest.ensures.same)) c.as_slice.ensures c.as_slice-2.ensures
    keys.ensures.few keys.ensures.bad keys.ensures.keys speaks.ensures.few speaks.ensures.bad speaks.ensures.speaks
