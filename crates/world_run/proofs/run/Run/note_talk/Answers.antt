use Rattle.std.proofs.Common.{sym}
use Rattle.std.specs.Map.{lookup}
use Rattle.std.specs.Str.{bytes_eq}
use Rattle.world_run.specs.Standing.{nodes_by}
use Rattle.world_run.proofs.RunLemmas.{found_open}
use Rattle.world_run.proofs.NotingLemmas.{talk_open, talk_shut}
use Rattle.world_run.proofs.run.Run.note_talk.Goals as goal

pub returns-in_default : goal.returns-in_default
returns-in_default c = λ left acts kept stands.
    talk_shut acts c.args.conv.now (lookup (bytes_eq c.args.conv.now) c.args.self.now.talks) c.args.setting.now c.forget_key.new.self (sym c.in_default.ensures) (stands.talks c.args.conv.now)
    (record { keys = c.forget_key.ensures.forgot; dom = c.forget_key.ensures.rest.0; tables = c.forget_key.ensures.rest.1 })

pub returns : goal.returns
returns c = λ left acts kept stands.
    let table = lookup (bytes_eq c.args.conv.now) c.args.self.now.talks in
    let o = found_open acts c.args.conv.now c.in-Some.talk.now table (sym c.in-Some.ensures) (stands.talks c.args.conv.now) in
    talk_open acts c.args.conv.now c.in-Some.talk.now table c.args.setting.now c.note_key.new.setting (sym c.in-Some.ensures) (stands.talks c.args.conv.now)
    ((rw c.as_slice.ensures at c.in_ok-note_key.ensures) (nodes_by acts) stands.nodes o.made)
