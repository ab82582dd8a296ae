use Rattle.std.proofs.Common.{ℕ, ◌<◌, length, refl, subst, ◌∙◌}
use Rattle.std.specs.List.{AllByRecursion}
use Rattle.sockets.proofs.AskingLemmas.{begun, failed_first, heard_first, not_heard}
use Rattle.sockets.proofs.socket.TcpDialer.ask_in_order.Goals as goal

pub loop-server-init : goal.loop-server-init
loop-server-init g c = record {
  each = c.requires.order;
  few = c.requires.few;
  room = refl;
  others = record { kept = refl; faults = refl; servers = refl };
  going = begun _ _;
}

pub loop-server-preserved : goal.loop-server-preserved
loop-server-preserved g c =
    let here = c.loop-server.invariant in
    let asked = c.ask_server.ensures in
    record {
      each = (subst (AllByRecursion (λ (i : ℕ). i < length c.args.self.now.servers)) c.in-Some-first_of.ensures here.each).1;
      few = here.few;
      room = asked.room ∙ here.room;
      others = record {
        kept = asked.others.kept ∙ here.others.kept;
        faults = asked.others.faults ∙ here.others.faults;
        servers = asked.others.servers ∙ here.others.servers;
      };
      going = failed_first _ _ _ _ _ _ _ _ _ c.in-Some-first_of.ensures here.going asked.failures c.note_failed.ensures;
    }

pub returns-in-Some-ask_server-clause-asked : goal.returns-in-Some-ask_server-clause-asked
returns-in-Some-ask_server-clause-asked g c =
    heard_first _ _ _ _ _ _ _ _ c.in-Some-first_of.ensures c.loop-server.invariant.going c.ask_server.ensures.failures c.note_answered.ensures

pub returns-in_default-now-clause-asked : goal.returns-in_default-now-clause-asked
returns-in_default-now-clause-asked g c = not_heard _ _ _ _ _ c.loop-server.invariant.going c.ask_server.ensures.failures
