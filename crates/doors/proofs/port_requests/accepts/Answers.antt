use Rattle.std.proofs.Common.{ℕ, List, ap, ◌∙◌, arith}
use Rattle.std.specs.Str.{bytes_eq}
use Rattle.doors.proofs.VouchLemmas.{vouched_by, vouched_none}
use Rattle.doors.proofs.port_requests.accepts.Goals as goal

pub returns-in-Some : goal.returns-in-Some
returns-in-Some c =
    c.eq.ensures ∙ ap (λ (t : List ℕ). bytes_eq t c.args.uname.now) c.text.ensures.value
    ∙ vouched_by c.args.uname.now c.args.bytes.now c.read_info.result c.in-Some.info c.read_info.ensures c.in-Some.is

pub returns-in-None : goal.returns-in-None
returns-in-None c = vouched_none c.args.uname.now c.args.bytes.now c.read_info.result (λ i. omega (arith, c.type_inv.bytes i)) c.read_info.ensures c.in-None.is
