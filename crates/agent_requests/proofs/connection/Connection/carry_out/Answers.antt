use Rattle.std.proofs.Common.{Err, refl, sym, subst, arith}
use Rattle.nine.specs.declared.message.TBody.{TBody}
use Rattle.agent_requests.specs.Connections.{Tried, asked}
use Rattle.agent_requests.proofs.RequestSteps.{auth_told}
use Rattle.agent_requests.proofs.ShareLemmas.{same_shared}
use Rattle.agent_requests.proofs.connection.Connection.carry_out.Goals as goal

pub returns-in-Auth : goal.returns-in-Auth
returns-in-Auth c = record {
  told = λ done keeps shares. rw c.in-Auth.is (auth_told done (asked c.args.call) c.in-Auth.afid c.in-Auth.uname c.in-Auth.aname c.args.self.now c.args.shared.now);
  few = omega arith;
  room = refl;
  kept = record { phase = refl; fids = refl; texts = λ fid. refl };
  shared = same_shared c.args.shared.now;
}

pub returns-in-Attach : goal.returns-in-Attach
returns-in-Attach c = rw c.in-Attach.is (c.attach.ensures c.in-Attach.uname c.in-Attach.aname c.args.shared.now)

pub returns-in-Walk : goal.returns-in-Walk
returns-in-Walk c = rw c.in-Walk.is (c.walk.ensures c.args.shared.now)

pub returns-in-Write : goal.returns-in-Write
returns-in-Write c = rw (c.in-Write.is, ← c.as_slice-in-Write.ensures) (c.write.ensures c.in-Write.offset)

pub returns-in-Stat : goal.returns-in-Stat
returns-in-Stat c = rw c.in-Stat.is (c.stat.ensures c.args.shared.now)

pub returns-in-Create : goal.returns-in-Create
returns-in-Create c =
    subst (λ (b : TBody). Tried c.args.call b c.args.self.now c.args.self.now c.args.shared.now c.args.shared.now (Err c.deny.result)) (sym c.in-Create.is) (c.deny.ensures.create c.in-Create.name c.in-Create.perm c.in-Create.mode c.args.shared.now)

pub returns-in-Wstat : goal.returns-in-Wstat
returns-in-Wstat c =
    subst (λ (b : TBody). Tried c.args.call b c.args.self.now c.args.self.now c.args.shared.now c.args.shared.now (Err c.deny-in-Wstat.result)) (sym c.in-Wstat.is) (c.deny-in-Wstat.ensures.wstat c.in-Wstat.stat c.args.shared.now)
