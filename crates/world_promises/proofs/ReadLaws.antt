-- What a read of a conversation that has a request leaves: the agent idle, the same conversations, their questions, and every other
-- conversation as it was; and what it comes to.
use Rattle.std.proofs.Common.{◌≡◌, ℕ, ◌+◌, List, [], ◌∷◌, ◌++◌, map, Bool, true, false, cond, eqb, not, Option, Some, None, refl, sym, ap, subst, ◌∙◌, arith}
use Rattle.std.specs.Prelude.{find, option_map}
use Rattle.std.proofs.lemmas.Bool.{ltb-true, ne_eqb}
use Rattle.nine.specs.declared.message.RBody.{RBody}
use Rattle.talks.specs.Standings.{standing}
use Rattle.agent_history.specs.Deeds.{Deed}
use Rattle.agent_history.specs.Conversations.{Question, asker, next_question, opened_talks, questions, raised, speakers, talk}
use Rattle.agent_history.specs.Histories.{History, deeds}
use Rattle.agent_laws.proofs.ConversationLaws.{Rise, questions_rise, rise_parts}
use Rattle.agent_laws.proofs.KindLaws.{same_number}
use Rattle.world_history.specs.Driving.{drive, questions_to, reads}
use Rattle.world_promises.specs.Agents.{begun_in}
use Rattle.driven_agents.specs.Idle.{AreOf, IsIdle, KeepsAskers, SameSeats}
use Rattle.driven_agents.proofs.HandedLaws.{none_unhanded, put_by, to_put, unhanded}
use Rattle.world_promises.proofs.EventDeeds.{CameOf}
use Rattle.world_promises.proofs.MetDeeds.{next_asked}
use Rattle.world_promises.proofs.TalkSides.{Going}

-- ---- what is left

pub record ReadLeft (number fid : ℕ) (word : List ℕ) (h : History) : Type 0 where
  pub idle : IsIdle (drive (reads fid word) h)
  pub seats : SameSeats h (drive (reads fid word) h)
  pub keeps : KeepsAskers (λ n. true) h (drive (reads fid word) h)
  pub raises : AreOf number (questions_to (reads fid word) h) (drive (reads fid word) h)
  pub others : (other : ℕ) → eqb number other ≡ false → begun_in (reads fid word ∷ h) other ≡ begun_in h other

-- the conversations that stand, and the talks of the others
pub record Rest (number : ℕ) (from done : List Deed) : Type 0 where
  pub seated : speakers done ≡ speakers from
  pub numbered : opened_talks done ≡ opened_talks from
  pub others : (other : ℕ) → eqb number other ≡ false → talk done other ≡ talk from other

pub rest_of : (number : ℕ) (from done : List Deed) → Going number from done → Rest number from done
rest_of number from done g = record { seated = ap (λ s. s.seated) g.side; numbered = ap (λ s. s.numbered) g.side; others = g.others }

-- nothing is handed out of an agent of which all was
pub none_put : (done now : List Deed) → next_question done ≡ None → questions now ≡ questions done → to_put now ≡ []
none_put done now none same = ap (λ qs. map (put_by now) (unhanded qs)) same ∙ ap (map (put_by now)) (none_unhanded (questions done) none)

-- what asks nothing new
pub quiet_left : (number fid : ℕ) (word : List ℕ) (h : History) (now : List Deed) (o : Option RBody) → IsIdle h → CameOf fid word h now o → Rest number (deeds h) now → questions now ≡ questions (deeds h) → ReadLeft number fid word h
quiet_left number fid word h now o idle_ c g same = record {
  idle = c.idle;
  seats = record { speakers = c.seated ∙ g.seated; opened = c.opened ∙ g.numbered };
  keeps = λ call n e _. c.askers call ∙ (ap (λ qs. option_map (λ q. q.conv) (find (λ q. eqb q.call call) qs)) same ∙ e);
  raises = subst (λ qs. AreOf number qs (drive (reads fid word) h)) (sym (c.questions ∙ none_put (deeds h) now idle_.handed same)) tt;
  others = λ other off. ap (λ s. s.begun) (c.stands other ∙ ap standing (g.others other off));
}

-- ---- a question more

more_behind : (p : Question → Bool) (qs : List Question) (q : Question) (n : ℕ) → option_map (λ x. x.conv) (find p qs) ≡ Some n → option_map (λ x. x.conv) (find p (qs ++ q ∷ [])) ≡ Some n
more_behind p [] q n e = absurd cc
more_behind p (x ∷ qs) q n e = by_test (p x) e (more_behind p qs q n)
  where
    by_test : (b : Bool) → option_map (λ y. y.conv) (cond b (Some x) (find p qs)) ≡ Some n → (option_map (λ y. y.conv) (find p qs) ≡ Some n → option_map (λ y. y.conv) (find p (qs ++ q ∷ [])) ≡ Some n) → option_map (λ y. y.conv) (cond b (Some x) (find p (qs ++ q ∷ []))) ≡ Some n
    by_test true e more = e
    by_test false e more = more e

abbrev calls_of : List Question → List ℕ
calls_of qs = map (λ q. q.call) qs

pub last_found : (top : ℕ) (qs : List Question) (q : Question) → Rise top (calls_of qs) → q.call ≡ top → option_map (λ x. x.conv) (find (λ x. eqb x.call top) (qs ++ q ∷ [])) ≡ Some q.conv
last_found top [] q rise e = ap (λ b. option_map (λ (x : Question). x.conv) (cond b (Some q) None)) (ap (λ n. eqb n top) e ∙ same_number top)
last_found top (x ∷ qs) q rise e =
    let parts = rise_parts top x.call (calls_of qs) rise in
    let apart = ne_eqb x.call top (λ same. omega (arith, same, ltb-true x.call top parts.below)) in
    ap (λ b. option_map (λ (y : Question). y.conv) (cond b (Some x) (find (λ y. eqb y.call top) (qs ++ q ∷ [])))) apart ∙ last_found top qs q parts.rest e

unhanded_more : (qs : List Question) (q : Question) → unhanded qs ≡ [] → q.handed ≡ false → unhanded (qs ++ q ∷ []) ≡ q ∷ []
unhanded_more [] q none new = ap (λ b. cond (not b) (q ∷ []) []) new
unhanded_more (x ∷ qs) q none new = by_handed (not x.handed) none (unhanded_more qs q)
  where
    by_handed : (b : Bool) → cond b (x ∷ unhanded qs) (unhanded qs) ≡ [] → (unhanded qs ≡ [] → q.handed ≡ false → unhanded (qs ++ q ∷ []) ≡ q ∷ []) → cond b (x ∷ unhanded (qs ++ q ∷ [])) (unhanded (qs ++ q ∷ [])) ≡ q ∷ []
    by_handed true none more = absurd cc
    by_handed false none more = more none new

-- what is put out of it
pub one_put : (number : ℕ) (done now : List Deed) → next_question done ≡ None → questions now ≡ questions done ++ next_asked number done ∷ [] → to_put now ≡ put_by now (next_asked number done) ∷ []
one_put number done now none same = ap (λ qs. map (put_by now) (unhanded qs)) same ∙ ap (map (put_by now)) (unhanded_more (questions done) (next_asked number done) (none_unhanded (questions done) none) refl)

pub asked_left : (number fid : ℕ) (word : List ℕ) (h : History) (now : List Deed) (o : Option RBody) → IsIdle h → CameOf fid word h now o → Rest number (deeds h) now → questions now ≡ questions (deeds h) ++ next_asked number (deeds h) ∷ [] → ReadLeft number fid word h
asked_left number fid word h now o idle_ c g same = record {
  idle = c.idle;
  seats = record { speakers = c.seated ∙ g.seated; opened = c.opened ∙ g.numbered };
  keeps = λ call n e _. c.askers call ∙ (ap (λ qs. option_map (λ q. q.conv) (find (λ q. eqb q.call call) qs)) same ∙ more_behind (λ q. eqb q.call call) (questions (deeds h)) (next_asked number (deeds h)) n e);
  raises =
      let top = raised (deeds h) + 1 in
      let there : asker (deeds (drive (reads fid word) h)) top ≡ Some number =
      c.askers top ∙ (ap (λ qs. option_map (λ q. q.conv) (find (λ q. eqb q.call top) qs)) same ∙ last_found top (questions (deeds h)) (next_asked number (deeds h)) (questions_rise h) refl) in
      subst (λ qs. AreOf number qs (drive (reads fid word) h)) (sym (c.questions ∙ one_put number (deeds h) now idle_.handed same)) (there, tt);
  others = λ other off. ap (λ s. s.begun) (c.stands other ∙ ap standing (g.others other off));
}
