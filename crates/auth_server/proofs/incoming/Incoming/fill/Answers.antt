use Rattle.std.proofs.Common.{◌+◌, ◌-◌, ◌≡◌, length, take, drop, length-drop, sym, ap, ◌∙◌, arith}
use Rattle.std.proofs.lemmas.List.{length-take-le}
use Rattle.auth_server.proofs.FillLemmas.{filled}
use Rattle.auth_server.proofs.incoming.Incoming.fill.Goals as goal

pub returns-in-Bytes-clause-fills : goal.returns-in-Bytes-clause-fills
returns-in-Bytes-clause-fills g c =
    let got = c.in-Bytes.ensures.bytes in
    let out = c.read-got.new.out in
    let have = c.self.inside.have in
    let bytes = c.self.inside.bytes in
    let within = c.self.invariant.0 in
    let long = c.self.invariant.1 in
    let held : length c.args.self.now.bytes ≡ have = ap (λ state. length state.bytes) (sym c.self.view_is) ∙ length-take-le have bytes (omega (arith, within, long)) in
    let size : length out ≡ (have + c.args.most) - have = c.read-got.auto.out ∙ length-take-le ((have + c.args.most) - have) (drop have bytes) (omega (arith, length-drop have bytes, held, long, c.requires.room)) in
    let piece : length (take c.in-Bytes.count out) ≡ c.in-Bytes.count = length-take-le c.in-Bytes.count out got.1 in (
      take c.in-Bytes.count out,
      rw (← c.self.view_is) (filled c.self.inside.bytes out c.self.inside.have _ c.in-Bytes.count (omega (arith, c.self.invariant.0, c.self.invariant.1)) got.1),
      sym piece,
      omega (arith, piece, got.0),
      omega (arith, piece, got.1, size),
      got.2,
    )
