-- What one call leaves of a port, and of what was exchanged with its agent.
use Rattle.std.proofs.Common.{◌≡◌, ℕ, List, [], ◌∷◌, ◌++◌, Bool, true, false, Option, Some, None, refl, sym, ap, subst, ◌∙◌, inl, inr, append_assoc}
use Rattle.std.specs.Prelude.{◌==◌, find, is_some, codes}
use Rattle.std.proofs.lemmas.Bool.{cases_Bool, eqb-true}
use Rattle.doors.specs.declared.port.PortOpen.{PortOpen}
use Rattle.doors.specs.declared.port.PortOpen.TheVariants as o
use Rattle.doors.specs.declared.port.PortSaid.{PortSaid}
use Rattle.doors.specs.Calls.{Asked, Opened}
use Rattle.door_ports.specs.declared.agent_port.AgentPort.{AgentPort}
use Rattle.door_ports.specs.declared.reply.Reply.{Reply}
use Rattle.door_ports.specs.declared.reply.Reply.TheVariants.{Refused}
use Rattle.door_ports.specs.Exchanges.{Exchange, IsClunk, IsPreparing, IsTold, IsTry}
use Rattle.door_ports.specs.Settings.{IsAskedSo, IsClosedSo, IsOpenedSo, IsReadying, IsSaidSo, Setting, after_open, all_but, holds, next_conv, readied, with_conv, without_conv, word_for}
use Rattle.door_ports.specs.Ports.{AsksOne, Did, IsRepliedSo, Keeps, Makes, Went}

abbrev value : Option ℕ → ℕ
value None = 0
value (Some x) = x

find_same : (conv f : ℕ) (l : List ℕ) → find (λ c. c == conv) l ≡ Some f → f ≡ conv
find_same conv f [] e = absurd cc
find_same conv f (x ∷ l) e = elim (cases_Bool (x == conv)) [
  | inl is ↦ let h : Some x ≡ Some f = rw is at e in sym (ap value h) ∙ eqb-true x conv is
  | inr not_so ↦ find_same conv f l (rw not_so at e)
]

not_found : (found : Option ℕ) → ((fid : ℕ) → found ≡ Some fid → ⊥) → is_some found ≡ false
not_found None none = refl
not_found (Some fid) none = absurd (none fid refl)

-- all but the agent and the conversations stays
pub record Beside {A : Type 0} (old new : AgentPort A) : Type 0 where
  pub works : new.has_failed ≡ old.has_failed
  pub conn : new.conn ≡ old.conn
  pub word : new.word ≡ old.word
  pub is_ready : new.is_ready ≡ old.is_ready

module _ {A : Type 0} where
  keeps_beside : (s : Setting) (old new : AgentPort A) → Keeps s old → Beside old new → new.convs.items ≡ old.convs.items → Keeps s new
  keeps_beside s old new k b v = record {
    works = b.works ∙ k.works;
    conn = b.conn ∙ k.conn;
    word = b.word ∙ k.word;
    is_ready = b.is_ready ∙ k.is_ready;
    open_convs = v ∙ k.open_convs;
  }

  held_so : (s : Setting) (conv : ℕ) (old : AgentPort A) (found : Option ℕ) → Keeps s old → find (λ c. c == conv) old.convs.items ≡ found → holds conv s.convs ≡ is_some found
  held_so s conv old found k is = ap (λ (l : List ℕ). is_some (find (λ c. c == conv) l)) (sym k.open_convs) ∙ ap is_some is

  pub keeps_closed : (s : Setting) (conv : ℕ) (old new : AgentPort A) → Keeps s old → Beside old new → new.convs.items ≡ all_but conv old.convs.items → Keeps (without_conv conv s) new
  keeps_closed s conv old new k b v = record {
    works = b.works ∙ k.works;
    conn = b.conn ∙ k.conn;
    word = b.word ∙ k.word;
    is_ready = b.is_ready ∙ k.is_ready;
    open_convs = v ∙ ap (all_but conv) k.open_convs;
  }

module _ {A : Type 0} (stands : List Exchange → A → Type 0) where
  -- ---- a connection is made ready

  pub was_ready : (s : Setting) (done : List Exchange) (port : AgentPort A) → Keeps s port → port.is_ready ≡ true → stands done port.agent → Went stands (IsReadying s.ready s.conn) done (readied s) port
  was_ready s done port k ready leaves = record {
    keeps = record { works = k.works; conn = k.conn; word = k.word; is_ready = ready; open_convs = k.open_convs };
    did = record { more = []; are = subst (λ (b : Bool). IsReadying b s.conn []) (sym ready ∙ k.is_ready) refl; leaves = leaves };
  }

  pub made_ready : (s : Setting) (done : List Exchange) (old new : AgentPort A) → Keeps s old → old.is_ready ≡ false → new.has_failed ≡ old.has_failed → new.conn ≡ old.conn → new.word ≡ old.word → new.is_ready ≡ true → new.convs.items ≡ old.convs.items
      → Did stands (IsPreparing old.conn) done new.agent → Went stands (IsReadying s.ready s.conn) done (readied s) new
  made_ready s done old new k not_so f c w r v d = record {
    keeps = record { works = f ∙ k.works; conn = c ∙ k.conn; word = w ∙ k.word; is_ready = r; open_convs = v ∙ k.open_convs };
    did = record {
      more = d.more;
      are = subst (λ (b : Bool). IsReadying b s.conn d.more) (sym not_so ∙ k.is_ready) (subst (λ (n : ℕ). IsPreparing n d.more) k.conn d.are);
      leaves = d.leaves;
    };
  }

  -- ---- an open

  try_so : (s : Setting) (fid : ℕ) (let_it : Bool) (old : AgentPort A) (more : List Exchange) → Keeps (readied s) old → fid ≡ next_conv old.convs.items → IsTry old.conn fid let_it more → IsTry s.conn (next_conv s.convs) let_it more
  try_so s fid let_it old more k is try =
      subst (λ (n : ℕ). IsTry n (next_conv s.convs) let_it more) k.conn (subst (λ (n : ℕ). IsTry old.conn n let_it more) (is ∙ ap next_conv k.open_convs) try)

  pub opened_none : (s : Setting) (done : List Exchange) (fid : ℕ) (let_it : Bool) (old new : AgentPort A) → let_it ≡ false → Keeps (readied s) old → Beside old new → new.convs.items ≡ old.convs.items → fid ≡ next_conv old.convs.items
      → Did stands (IsTry old.conn fid let_it) done new.agent → Went stands (IsOpenedSo s.conn (next_conv s.convs) o.Refused) done (readied s) new
  opened_none s done fid let_it old new not_so k b v is d = record {
    keeps = keeps_beside (readied s) old new k b v;
    did = record {
      more = d.more;
      are = try_so s fid false old d.more k is (subst (λ (x : Bool). IsTry old.conn fid x d.more) not_so d.are);
      leaves = d.leaves;
    };
  }

  pub opened_some : (s : Setting) (done : List Exchange) (fid : ℕ) (let_it : Bool) (old new : AgentPort A) → let_it ≡ true → Keeps (readied s) old → Beside old new → new.convs.items ≡ old.convs.items ++ fid ∷ [] → fid ≡ next_conv old.convs.items
      → Did stands (IsTry old.conn fid let_it) done new.agent → Went stands (IsOpenedSo s.conn (next_conv s.convs) (o.Open fid)) done (with_conv fid s) new
  opened_some s done fid let_it old new so k b v is d = record {
    keeps = record {
      works = b.works ∙ k.works;
      conn = b.conn ∙ k.conn;
      word = b.word ∙ k.word;
      is_ready = b.is_ready ∙ k.is_ready;
      open_convs = v ∙ ap (λ (l : List ℕ). l ++ fid ∷ []) k.open_convs;
    };
    did = record {
      more = d.more;
      are = (is ∙ ap next_conv k.open_convs, try_so s fid true old d.more k is (subst (λ (x : Bool). IsTry old.conn fid x d.more) so d.are));
      leaves = d.leaves;
    };
  }

  pub begun : (s : Setting) (answer : PortOpen) (done : List Exchange) (middle new : AgentPort A) → (m : Went stands (IsReadying s.ready s.conn) done (readied s) middle)
      → Went stands (IsOpenedSo s.conn (next_conv s.convs) answer) (m.did.more ++ done) (after_open answer s) new → Makes stands s (Opened answer) done new
  begun s answer done middle new m n = record {
    keeps = n.keeps;
    did = record {
      more = n.did.more ++ m.did.more;
      are = record { earlier = m.did.more; later = n.did.more; parts = refl; before = m.did.are; behind = n.did.are };
      leaves = subst (λ (l : List Exchange). stands l new.agent) (sym (append_assoc n.did.more m.did.more done)) n.did.leaves;
    };
  }

  -- ---- a request

  pub asked_held : (s : Setting) (conv fid : ℕ) (request word : List ℕ) (reply : Reply) (done : List Exchange) (old new : AgentPort A) → Keeps s old → Beside old new → new.convs.items ≡ old.convs.items
      → find (λ c. c == conv) old.convs.items ≡ Some fid → word ≡ word_for s request → Did stands (IsTold old.conn fid request word reply) done new.agent → AsksOne stands s conv request reply done new
  asked_held s conv fid request word reply done old new k b v found is d =
      let so : IsTold s.conn conv request (word_for s request) reply d.more = subst (λ (n : ℕ). IsTold n conv request (word_for s request) reply d.more) k.conn (subst (λ (n : ℕ). IsTold old.conn n request (word_for s request) reply d.more) (find_same conv fid old.convs.items found) (subst (λ (w : List ℕ). IsTold old.conn fid request w reply d.more) is d.are)) in
      record {
        keeps = keeps_beside s old new k b v;
        did = record {
          more = d.more;
          are = subst (λ (held : Bool). IsRepliedSo held s.conn conv request (word_for s request) reply d.more) (sym (held_so s conv old (Some fid) k found)) so;
          leaves = d.leaves;
        };
      }

  pub asked_none : (s : Setting) (conv : ℕ) (request text : List ℕ) (found : Option ℕ) (done : List Exchange) (port : AgentPort A) → Keeps s port → find (λ c. c == conv) port.convs.items ≡ found → ((fid : ℕ) → found ≡ Some fid → ⊥) → text ≡ codes "unknown fid" → stands done port.agent
      → AsksOne stands s conv request (Refused text) done port
  asked_none s conv request text found done port k is none told leaves = record {
    keeps = k;
    did = record {
      more = [];
      are = subst (λ (held : Bool). IsRepliedSo held s.conn conv request (word_for s request) (Refused text) []) (sym (held_so s conv port found k is ∙ not_found found none)) (refl, ap Refused told);
      leaves = leaves;
    };
  }

  said_by : (held : Bool) (conn conv : ℕ) (request word : List ℕ) (reply : Reply) (came : PortSaid) (answer : List ℕ) (more : List Exchange) → IsRepliedSo held conn conv request word reply more → IsSaidSo reply came answer → IsAskedSo held conn conv request word came answer more
  said_by true conn conv request word reply came answer more told said = record { reply = reply; told = told; said = said }
  said_by false conn conv request word reply came answer more told said = (told.0, subst (λ (r : Reply). IsSaidSo r came answer) told.1 said)

  pub said_so : (s : Setting) (conv : ℕ) (request : List ℕ) (reply : Reply) (came : PortSaid) (answer : List ℕ) (done : List Exchange) (port : AgentPort A) → AsksOne stands s conv request reply done port → IsSaidSo reply came answer → Makes stands s (Asked conv request came answer) done port
  said_so s conv request reply came answer done port one said = record {
    keeps = one.keeps;
    did = record {
      more = one.did.more;
      are = said_by (holds conv s.convs) s.conn conv request (word_for s request) reply came answer one.did.more one.did.are said;
      leaves = one.did.leaves;
    };
  }

  -- ---- a close

  pub given_up : (s : Setting) (conv fid : ℕ) (done : List Exchange) (old new : AgentPort A) → Keeps s old → Beside old new → new.convs.items ≡ old.convs.items → find (λ c. c == conv) old.convs.items ≡ Some fid
      → Did stands (IsClunk old.conn fid) done new.agent → Went stands (IsClosedSo (holds conv s.convs) s.conn conv) done s new
  given_up s conv fid done old new k b v found d =
      let so : IsClunk s.conn conv d.more = subst (λ (n : ℕ). IsClunk n conv d.more) k.conn (subst (λ (n : ℕ). IsClunk old.conn n d.more) (find_same conv fid old.convs.items found) d.are) in
      record {
        keeps = keeps_beside s old new k b v;
        did = record { more = d.more; are = subst (λ (held : Bool). IsClosedSo held s.conn conv d.more) (sym (held_so s conv old (Some fid) k found)) so; leaves = d.leaves };
      }

  pub not_open : (s : Setting) (conv : ℕ) (found : Option ℕ) (done : List Exchange) (port : AgentPort A) → Keeps s port → find (λ c. c == conv) port.convs.items ≡ found → ((fid : ℕ) → found ≡ Some fid → ⊥) → stands done port.agent
      → Went stands (IsClosedSo (holds conv s.convs) s.conn conv) done s port
  not_open s conv found done port k is none leaves = record {
    keeps = k;
    did = record { more = []; are = subst (λ (held : Bool). IsClosedSo held s.conn conv []) (sym (held_so s conv port found k is ∙ not_found found none)) refl; leaves = leaves };
  }
