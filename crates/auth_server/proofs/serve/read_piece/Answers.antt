use Rattle.std.proofs.Common.{◌≡◌, ◌<◌, ◌+◌, ap, length, sym, subst, ◌∙◌, arith, length-append}
use Rattle.std.proofs.lemmas.Result.{IfErr-weaker}
use Rattle.auth_server.specs.Serving.{moment, most_input}
use Rattle.auth_server.specs.Steps.{EndsBehind}
use Rattle.auth_server.proofs.ReadLemmas.{flooded, met_unknown, stopped, torn}
use Rattle.auth_server.proofs.serve.read_piece.Goals as goal

pub returns-in-Bytes-clause-err : goal.returns-in-Bytes-clause-err
returns-in-Bytes-clause-err g c = λ first before words holds requests h.
    let fills = c.in-Bytes.ensures.fills in
    flooded (g.C.LiveTables.in_force first) before _ _ words holds requests c.args.session.now c.args.incoming.now c.fill.new.self h
    fills.0 fills.3 (omega (arith, fills.4, c.min-most.ensures, c.max.ensures, c.if-left-eq0.true)) fills.5 c.requires.unfinished
    (omega (arith, c.at.ensures, c.len.ensures, c.if-left-eq0.true, c.requires.few))

pub returns-in-Bytes-2-clause-err : goal.returns-in-Bytes-2-clause-err
returns-in-Bytes-2-clause-err g c =
    let fills = c.in-Bytes-2.ensures.fills in
    let longer : length c.fill.new.self.bytes ≡ length c.args.incoming.now.bytes + length fills.0 = ap length fills.1 ∙ length-append c.args.incoming.now.bytes fills.0 in
    let few : c.args.incoming.now.at + length c.args.incoming.now.bytes < most_input = omega (arith, c.at.ensures, c.len.ensures, c.if-left-eq0.false, c.requires.few) in
    IfErr-weaker c.weigh.result _ _ (λ end unknown first before words holds requests h.
    subst (λ end. EndsBehind (g.C.LiveTables.in_force first) end before (moment (g.R.Source.left c.fill.new.source) words holds) requests) (sym unknown.0) (
    met_unknown (g.C.LiveTables.in_force first) before _ _ words holds requests c.args.session.now c.args.incoming.now c.fill.new.self h
    fills.0 fills.1 (omega (arith, longer, fills.3)) fills.5 c.fill.ensures.at few unknown.1))
    c.weigh.ensures.unknown

pub returns-in-End-2-clause-err : goal.returns-in-End-2-clause-err
returns-in-End-2-clause-err g c = λ first before words holds requests h.
    let fills = c.in-End-2.ensures.fills in
    torn (g.C.LiveTables.in_force first) before _ _ words holds requests c.args.session.now c.args.incoming.now c.fill.new.self h
    c.requires.unfinished (omega (arith, c.len.ensures, c.if-len-eq0.false, ap length fills.0)) fills.1 fills.2 c.at-in-End-2.result (c.at-in-End-2.ensures ∙ c.fill.ensures.at)

pub returns-in-Failed-clause-err : goal.returns-in-Failed-clause-err
returns-in-Failed-clause-err g c = λ first before words holds requests h.
    stopped (g.C.LiveTables.in_force first) before _ _ words holds requests c.args.session.now c.args.incoming.now c.fill.new.self h c.requires.unfinished c.in-Failed.ensures.fills.1
