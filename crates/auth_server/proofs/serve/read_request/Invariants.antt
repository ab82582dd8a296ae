use Rattle.std.proofs.Common.{◌+◌, ◌-◌, ◌≤◌, ℕ, List, length}
use Rattle.std.specs.Prelude.{Option}
use Rattle.auth_server.specs.Answers.{Posed}
use Rattle.auth_server.specs.Sessions.{IsUnfinished}
use Rattle.auth_server.specs.Serving.{Moment, moment, most_input}
use Rattle.auth_server.specs.Steps.{Received}
use Rattle.auth_server.proofs.serve.read_request.Given as goal

-- part of a request was read
abbrev pub invariant-loop : goal.invariant-loop
invariant-loop g l = record {
  received : (first : g.row.C.Denot) (before : Moment) (words : Option (List (List ℕ))) (holds : Option (List ℕ)) (requests : List Posed)
      → Received (g.C.LiveTables.in_force first) before (moment (g.R.Source.left l.fn.source) words holds) requests l.session l.fn.incoming
      → Received (g.C.LiveTables.in_force first) before (moment (g.R.Source.left l.source) words holds) requests l.session l.incoming;
  unfinished : IsUnfinished l.session.held l.incoming.bytes;
  few : l.incoming.at + length l.incoming.bytes ≤ most_input;
  bound : length l.incoming.bytes ≤ 173;
  counted : g.R.Source.faults l.fn.source ≤ g.R.Source.faults l.source;
}

abbrev pub decreases-loop : goal.decreases-loop
decreases-loop g l = 173 - length l.incoming.bytes
