-- What a port stands for behind a call.
use Rattle.std.proofs.Common.{◌≡◌, ℕ, List, [], ◌∷◌, ◌++◌, Bool, true, false, refl, sym, subst, ◌∙◌, inl, inr, append_assoc}
use Rattle.doors.specs.Calls.{PortCall}
use Rattle.door_ports.specs.declared.agent_port.AgentPort.{AgentPort}
use Rattle.door_ports.specs.Exchanges.{Exchange}
use Rattle.door_ports.specs.Settings.{AllAreMade, AreMade, FindsNoMemory, Setting, after}
use Rattle.door_ports.specs.Ports.{HasFailed, Makes, Stands, StandsBy, StandsWith, Stood, Works, told_word}

-- calls that were all answered
all_made : (s : Setting) (calls : List PortCall) (more : List Exchange) → AllAreMade s calls more → AreMade s calls more
all_made s [] more made = made
all_made s (call ∷ calls) more made = inl made

module _ {P A : Type 0} (stands : P → List Exchange → A → Type 0) where
  -- what stands while memory doesn't run out
  pub works_so : (s : Stood P) (calls : List PortCall) (more : List Exchange) (port : AgentPort A) → port.has_failed ≡ false → StandsWith stands s calls more port → Works stands s calls more port
  works_so s calls more port works so = subst (λ (b : Bool). StandsBy stands b s calls more port) works so

  stands_so : (s : Stood P) (calls : List PortCall) (more : List Exchange) (port : AgentPort A) → Works stands s calls more port → StandsWith stands s calls more port
  stands_so s calls more port w = subst (λ (b : Bool). StandsBy stands b s calls more port) (sym w.keeps.works) w

  as_failed : (failed : Bool) (s : Stood P) (calls : List PortCall) (more : List Exchange) (port : AgentPort A) → StandsBy stands failed s calls more port → HasFailed stands s calls more
  as_failed true s calls more port so = so
  as_failed false s calls more port so = record { made = all_made s.setting calls more so.made; agent = port.agent; stood = so.agent }

  -- what a port's calls came to, whether memory ran out or not
  pub came_to : (s : Stood P) (calls : List PortCall) (more : List Exchange) (port : AgentPort A) → StandsWith stands s calls more port → HasFailed stands s calls more
  came_to s calls more port so = as_failed port.has_failed s calls more port so

  -- a call that finds no memory
  pub finds_none : (s : Stood P) (calls : List PortCall) (call : PortCall) (old : AgentPort A) → FindsNoMemory call → Stands stands s calls old → (more : List Exchange) × HasFailed stands s (call ∷ calls) more
  finds_none s calls call old finds so =
      let f = came_to s calls so.0 old so.1 in (so.0, record { made = inr (finds, f.made); agent = f.agent; stood = f.stood })

  -- the same, of a port for which memory ran out before
  pub found_none : (s : Stood P) (calls : List PortCall) (call : PortCall) (port : AgentPort A) → FindsNoMemory call → port.has_failed ≡ true → Stands stands s calls port → Stands stands s (call ∷ calls) port
  found_none s calls call port finds failed so =
      let f = finds_none s calls call port finds so in (f.0, subst (λ (b : Bool). StandsBy stands b s (call ∷ calls) f.0 port) (sym failed) f.1)

  -- a call that was answered
  pub makes_one : (s : Stood P) (calls : List PortCall) (more : List Exchange) (call : PortCall) (old new : AgentPort A) → Works stands s calls more old → Makes (stands s.past) (after s.setting calls) call (more ++ s.done) new → Stands stands s (call ∷ calls) new
  makes_one s calls more call old new w m = (
    m.did.more ++ more,
    stands_so s (call ∷ calls) (m.did.more ++ more) new (record {
      keeps = m.keeps;
      made = record { earlier = more; later = m.did.more; parts = refl; before = w.made; behind = m.did.are };
      agent = subst (λ (l : List Exchange). stands s.past l new.agent) (sym (append_assoc m.did.more more s.done)) m.did.leaves;
    }),
  )

  -- a word is told
  told_by : (failed : Bool) (s : Stood P) (calls : List PortCall) (more : List Exchange) (word : List ℕ) (old new : AgentPort A) → new.has_failed ≡ old.has_failed → new.conn ≡ old.conn → new.word ≡ word → new.is_ready ≡ old.is_ready
      → new.convs.items ≡ old.convs.items → new.agent ≡ old.agent → StandsBy stands failed s calls more old → StandsBy stands failed (told_word s calls more word) [] [] new
  told_by true s calls more word old new f c w r v a so = record { made = refl; agent = so.agent; stood = so.stood }
  told_by false s calls more word old new f c w r v a so = record {
    keeps = record {
      works = f ∙ so.keeps.works;
      conn = c ∙ so.keeps.conn;
      word = w;
      is_ready = r ∙ so.keeps.is_ready;
      open_convs = v ∙ so.keeps.open_convs;
    };
    made = refl;
    agent = subst (λ (x : A). stands s.past (more ++ s.done) x) (sym a) so.agent;
  }

  pub told_so : (s : Stood P) (calls : List PortCall) (more : List Exchange) (word : List ℕ) (old new : AgentPort A) → new.has_failed ≡ old.has_failed → new.conn ≡ old.conn → new.word ≡ word → new.is_ready ≡ old.is_ready → new.convs.items ≡ old.convs.items
      → new.agent ≡ old.agent → StandsWith stands s calls more old → StandsWith stands (told_word s calls more word) [] [] new
  told_so s calls more word old new f c w r v a so =
      subst (λ (b : Bool). StandsBy stands b (told_word s calls more word) [] [] new) (sym f) (told_by old.has_failed s calls more word old new f c w r v a so)
