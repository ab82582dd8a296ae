use Rattle.std.proofs.Common.{arith}
use Rattle.std.proofs.lemmas.List.{length-take-le}
use Rattle.agent_lines.proofs.LineLemmas.{read_ended, read_failed, read_flood}
use Rattle.agent_lines.proofs.input.read_over.Goals as goal

pub returns-in-Bytes-clause-told : goal.returns-in-Bytes-clause-told
returns-in-Bytes-clause-told g c = let got = c.in-Bytes.ensures.bytes in
    λ conn first seat words holds kept going short full. read_flood conn first seat words _ _ holds kept c.args.framer.now _ going short full (omega (arith, got.0, length-take-le _ _ got.1)) got.2

pub returns-in-End-clause-told : goal.returns-in-End-clause-told
returns-in-End-clause-told g c = let got = c.in-End.ensures.bytes in
    λ conn first seat words holds kept going short full. read_ended conn first seat words _ _ holds kept c.args.framer.now c.end_of.result going short got.1 got.0 c.end_of.ensures

pub returns-in-Failed-clause-told : goal.returns-in-Failed-clause-told
returns-in-Failed-clause-told g c = λ conn first seat words holds kept going short full. read_failed conn first seat words _ _ holds kept c.args.framer.now going short c.in-Failed.ensures.bytes
