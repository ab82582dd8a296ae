use Rattle.std.proofs.Common.{◌≡◌, ◌-◌, ◌≤◌, []}
use Rattle.auth_server.specs.Serving.{moment, most_input}
use Rattle.auth_server.specs.Steps.{HasAnswered}
use Rattle.auth_server.proofs.serve.serve_requests.Given as goal

-- between two requests: those before were answered, and no byte of the next was read
abbrev pub invariant-requests : goal.invariant-requests
invariant-requests g l = record {
  answered : HasAnswered (g.C.LiveTables.in_force l.fn.tables) (g.C.LiveTables.in_force l.tables) (moment (g.R.Source.left l.fn.source) (g.G.Words.to_come l.fn.words) (g.W.Sink.holds l.fn.sink))
      (moment (g.R.Source.left l.source) (g.G.Words.to_come l.words) (g.W.Sink.holds l.sink)) (g.L.Log.noted l.fn.log) (g.L.Log.noted l.log) l.incoming.at l.session;
  new : l.incoming.bytes ≡ [];
  few : l.incoming.at ≤ most_input;
  reads : g.R.Source.faults l.fn.source ≤ g.R.Source.faults l.source;
  writes : g.W.Sink.faults l.fn.sink ≤ g.W.Sink.faults l.sink;
  draws : g.G.Words.faults l.fn.words ≤ g.G.Words.faults l.words;
}

abbrev pub decreases-requests : goal.decreases-requests
decreases-requests g l = most_input - l.incoming.at
