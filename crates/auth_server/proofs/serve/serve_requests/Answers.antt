use Rattle.std.proofs.Common.{◌≡◌, ◌<◌, ◌+◌, arith, length, refl, sym, ap, subst, ◌∙◌}
use Rattle.std.proofs.lemmas.Result.{err_from_is_err_and}
use Rattle.auth_server.specs.Requests.{kind_of}
use Rattle.auth_server.specs.Serving.{moment}
use Rattle.auth_server.specs.Steps.{HasAnswered}
use Rattle.auth_server.proofs.ServeLemmas.{none_answered, at_parts, ends_whole, needs_some, noted_behind}
use Rattle.auth_server.proofs.serve.serve_requests.Goals as goal

pub requests-init : goal.requests-init
requests-init g c =
    let first = ap (λ i. i.at) c.new-incoming.ensures in
    record {
      answered = none_answered (g.C.LiveTables.in_force c.args.tables.now) _ _ c.new-session.result c.new-incoming.result c.new-session.ensures.stands first;
      new = ap (λ i. i.bytes) c.new-incoming.ensures;
      few = omega (arith, first);
      reads = omega arith;
      writes = omega arith;
      draws = omega arith;
    }

pub returns-in_err-answer_request-clause-err : goal.returns-in_err-answer_request-clause-err
returns-in_err-answer_request-clause-err g c =
    let force = g.C.LiveTables.in_force c.args.tables.now in
    let before = moment (g.R.Source.left c.args.source.now) (g.G.Words.to_come c.args.words.now) (g.W.Sink.holds c.args.sink.now) in
    let a = c.requests.invariant.answered in
    let incoming = c.read_request.new.incoming in
    let new = at_parts force before _ a.requests c.requests.session (record { at = c.requests.incoming.at; bytes = _ }) c.requests.incoming.at c.requests.incoming.bytes refl (sym c.requests.invariant.new) a.received in
    let whole = c.in_ok-read_request.ensures.received c.args.tables.now before (g.G.Words.to_come c.requests.words) (g.W.Sink.holds c.requests.sink) a.requests new in
    let it = at_parts force before _ a.requests c.requests.session incoming incoming.at c.as_slice.result.now refl (sym c.as_slice.ensures) whole in
    let p = err_from_is_err_and c.from_residual-in_err-answer_request.result c.from_residual-in_err-answer_request.ensures.1 in
    rw (p.1, p.2) (c.in_err-answer_request.ensures.err c.args.tables.now before (g.R.Source.left c.read_request.new.source) incoming.at a.requests (g.L.Log.noted c.args.log.now) a.since it a.noted)

pub returns-in_err-read_request-clause-err : goal.returns-in_err-read_request-clause-err
returns-in_err-read_request-clause-err g c =
    let force = g.C.LiveTables.in_force c.args.tables.now in
    let before = moment (g.R.Source.left c.args.source.now) (g.G.Words.to_come c.args.words.now) (g.W.Sink.holds c.args.sink.now) in
    let a = c.requests.invariant.answered in
    let new = at_parts force before _ a.requests c.requests.session (record { at = c.requests.incoming.at; bytes = _ }) c.requests.incoming.at c.requests.incoming.bytes refl (sym c.requests.invariant.new) a.received in
    let p = err_from_is_err_and c.from_residual.result c.from_residual.ensures.1 in
    rw (p.1, p.2) (noted_behind force _ before _ a.requests _ _ (c.in_err-read_request.ensures.err c.args.tables.now before (g.G.Words.to_come c.requests.words) (g.W.Sink.holds c.requests.sink) a.requests new) a.noted)

pub requests-smaller : goal.requests-smaller
requests-smaller g c =
    let force = g.C.LiveTables.in_force c.args.tables.now in
    let before = moment (g.R.Source.left c.args.source.now) (g.G.Words.to_come c.args.words.now) (g.W.Sink.holds c.args.sink.now) in
    let a = c.requests.invariant.answered in
    let incoming = c.read_request.new.incoming in
    let new = at_parts force before _ a.requests c.requests.session (record { at = c.requests.incoming.at; bytes = _ }) c.requests.incoming.at c.requests.incoming.bytes refl (sym c.requests.invariant.new) a.received in
    let whole = c.in_ok-read_request.ensures.received c.args.tables.now before (g.G.Words.to_come c.requests.words) (g.W.Sink.holds c.requests.sink) a.requests new in
    let some : 0 < length incoming.bytes = needs_some c.requests.session.held (kind_of incoming.bytes) (length incoming.bytes) (c.in_ok-read_request.ensures.whole c.if-branch.true) in
    let next : c.next.new.self.at ≡ incoming.at + length incoming.bytes = ap (λ i. i.at) c.next.ensures in
    omega (arith, some, next, whole.place, a.received.place, c.in_ok-read_request.ensures.few)

pub requests-preserved : goal.requests-preserved
requests-preserved g c =
    let force = g.C.LiveTables.in_force c.args.tables.now in
    let before = moment (g.R.Source.left c.args.source.now) (g.G.Words.to_come c.args.words.now) (g.W.Sink.holds c.args.sink.now) in
    let a = c.requests.invariant.answered in
    let incoming = c.read_request.new.incoming in
    let new = at_parts force before _ a.requests c.requests.session (record { at = c.requests.incoming.at; bytes = _ }) c.requests.incoming.at c.requests.incoming.bytes refl (sym c.requests.invariant.new) a.received in
    let whole = c.in_ok-read_request.ensures.received c.args.tables.now before (g.G.Words.to_come c.requests.words) (g.W.Sink.holds c.requests.sink) a.requests new in
    let it = at_parts force before _ a.requests c.requests.session incoming incoming.at c.as_slice.result.now refl (sym c.as_slice.ensures) whole in
    let next : c.next.new.self.at ≡ incoming.at + length incoming.bytes = ap (λ i. i.at) c.next.ensures in
    record {
      answered = subst (λ at. HasAnswered force (g.C.LiveTables.in_force c.answer_request.new.tables) before (moment (g.R.Source.left c.read_request.new.source) (g.G.Words.to_come c.answer_request.new.words) (g.W.Sink.holds c.answer_request.new.sink)) (g.L.Log.noted c.args.log.now) (g.L.Log.noted c.answer_request.new.log) at c.answer_request.new.session) (ap (λ bytes. incoming.at + length bytes) c.as_slice.ensures ∙ sym next)
          (c.in_ok-answer_request.ensures.answered c.args.tables.now before (g.R.Source.left c.read_request.new.source) incoming.at a.requests (g.L.Log.noted c.args.log.now) a.since it a.noted);
      new = ap (λ i. i.bytes) c.next.ensures;
      few = omega (arith, next, c.in_ok-read_request.ensures.few);
      reads = omega (arith, c.requests.invariant.reads, c.in_ok-read_request.ensures.counted);
      writes = omega (arith, c.requests.invariant.writes, c.in_ok-answer_request.ensures.counted_writes);
      draws = omega (arith, c.requests.invariant.draws, c.in_ok-answer_request.ensures.counted_words);
    }

pub returns-clause-end : goal.returns-clause-end
returns-clause-end g c =
    let force = g.C.LiveTables.in_force c.args.tables.now in
    let before = moment (g.R.Source.left c.args.source.now) (g.G.Words.to_come c.args.words.now) (g.W.Sink.holds c.args.sink.now) in
    let a = c.requests.invariant.answered in
    let new = at_parts force before _ a.requests c.requests.session (record { at = c.requests.incoming.at; bytes = _ }) c.requests.incoming.at c.requests.incoming.bytes refl (sym c.requests.invariant.new) a.received in
    let whole = c.in_ok-read_request.ensures.received c.args.tables.now before (g.G.Words.to_come c.requests.words) (g.W.Sink.holds c.requests.sink) a.requests new in
    let ended = c.in_ok-read_request.ensures.ended c.if-branch.false in
    noted_behind force _ before _ a.requests _ _ (ends_whole force before _ a.requests c.requests.session c.read_request.new.incoming whole ended.0 ended.1 c.in_ok-read_request.ensures.few) a.noted
