-- A step more of the conversations of a record.
use Rattle.std.proofs.Common.{◌≡◌, ℕ, ◌+◌, ◌<◌, List, [], ◌∷◌, ◌++◌, append_assoc, map, length, Bool, true, false, cond, Option, Some, None, if◌then◌else◌, inl, inr, refl, sym, ap, subst, ◌∙◌}
use Rattle.std.specs.Prelude.{is_some, option_copied}
use Rattle.std.specs.Borrow.{Bor}
use Rattle.std.specs.Str.{bytes_eq}
use Rattle.std.specs.Cmp.Lexicographic.{bytes_decides}
use Rattle.std.proofs.lemmas.Bool.{cases_Bool, cond-true, cond-false}
use Rattle.symbolic_runs.specs.Moves.{Own, Role}
use Rattle.symbolic_runs.specs.Runs.{Setting, given}
use Rattle.symbolic_runs.specs.Trees.{Tree}
use Rattle.wire_histories.specs.declared.step.Protocol.{Protocol}
use Rattle.wire_histories.specs.declared.step.Role.{Role as Part}
use Rattle.wire_histories.specs.declared.step.Step.{Step}
use Rattle.wire_histories.specs.declared.step.Step.TheVariants.{Start, Out, In, Ask, Heard, Unheard, Accept, Fail, Reply, Refused, AsGot, AsGave, AsEnd, Restart, Reload}
use Rattle.wire_histories.specs.Histories.{History, Act, started, gave, took, asked, answered, unanswered, accepted, failed, act_in, if_named}
use Rattle.clean_runs.specs.Agreement.{own_in, plays}
use Rattle.clean_runs.specs.Labels.{Labelled, Labelling, labelled, started_as, starts_in}
use Rattle.clean_runs.specs.Runs.{conv_events, number_of, role_by}
use Rattle.trace_runs.specs.declared.conversation.Conversation.{Conversation}
use Rattle.trace_runs.specs.declared.network.Conversations.{Conversations}
use Rattle.trace_runs.specs.Network.{HasStarted, IsActOf, IsBeside, IsSettingAt, IsTalk, Stand, TalkIs, labelled_act, own_for, talk_at}
use Rattle.trace_runs.specs.Given.{events_by}
use Rattle.trace_runs.specs.Stages.{StandsFor}
use Rattle.trace_runs.specs.Views.{role_of}

-- ---- what a step leaves

-- to the conversation of a name
record Leaves (name : List ℕ) (step : Step) : Type 0 where
  pub acts : act_in name step ≡ []
  pub started : (past : History) → started_as name (step ∷ past) ≡ started_as name past
  pub plays : (past : History) → plays name (step ∷ past) ≡ plays name past

by_other : (conv name : List ℕ) (p : Protocol) (r : Part) (w : List ℕ) → bytes_eq conv name ≡ false → Leaves name (Start conv p r w)
by_other conv name p r w e = record {
  acts = ap (λ (b : Bool). if b then started p r w ∷ [] else []) e;
  started = λ past. ap (λ (b : Bool). if b then Some (starts_in past) else started_as name past) e;
  plays = λ past. ap (λ (b : Bool). if b then Some (role_by p r) else plays name past) e;
}

leaves : (name : List ℕ) (step : Step) → act_in name step ≡ [] → Leaves name step
leaves name (Start conv p r w) none = elim (cases_Bool (bytes_eq conv name)) [
  | inl same ↦ absurd (let here : started p r w ∷ [] ≡ [] = sym (ap (λ (b : Bool). if b then started p r w ∷ [] else []) same) ∙ none in cc)
  | inr differs ↦ by_other conv name p r w differs
]
leaves name (Out n conv b) none = record { acts = none; started = λ past. refl; plays = λ past. refl }
leaves name (In conv b) none = record { acts = none; started = λ past. refl; plays = λ past. refl }
leaves name (Ask n conv b) none = record { acts = none; started = λ past. refl; plays = λ past. refl }
leaves name (Heard conv b) none = record { acts = none; started = λ past. refl; plays = λ past. refl }
leaves name (Unheard conv) none = record { acts = none; started = λ past. refl; plays = λ past. refl }
leaves name (Accept conv cuid suid) none = record { acts = none; started = λ past. refl; plays = λ past. refl }
leaves name (Fail conv cause) none = record { acts = none; started = λ past. refl; plays = λ past. refl }
leaves name (Reply conv answer) none = record { acts = none; started = λ past. refl; plays = λ past. refl }
leaves name (Refused node answer) none = record { acts = none; started = λ past. refl; plays = λ past. refl }
leaves name (AsGot session b words) none = record { acts = none; started = λ past. refl; plays = λ past. refl }
leaves name (AsGave n session b) none = record { acts = none; started = λ past. refl; plays = λ past. refl }
leaves name (AsEnd session) none = record { acts = none; started = λ past. refl; plays = λ past. refl }
leaves name (Restart node) none = record { acts = none; started = λ past. refl; plays = λ past. refl }
leaves name Reload none = record { acts = none; started = λ past. refl; plays = λ past. refl }

-- of an act of a conversation
record Acts (name : List ℕ) (act : Act) (step : Step) : Type 0 where
  pub acts : (other : List ℕ) → act_in other step ≡ if_named name other act
  pub starts : (past : History) → starts_in (step ∷ past) ≡ starts_in past
  pub started : (past : History) → started_as name (step ∷ past) ≡ started_as name past
  pub plays : (past : History) → plays name (step ∷ past) ≡ plays name past

named_so : (name conv other : List ℕ) (act done : Act) → conv ≡ name → act ≡ done → if_named conv other done ≡ if_named name other act
named_so name conv other act done e f = ap (λ c. if_named c other done) e ∙ ap (if_named name other) (sym f)

acts : (name : List ℕ) (act : Act) (step : Step) → IsActOf name act step → Acts name act step
acts name act (Out n conv b) is = record { acts = λ other. named_so name conv other act (gave b) is.0 is.1; starts = λ past. refl; started = λ past. refl; plays = λ past. refl }
acts name act (In conv b) is = record { acts = λ other. named_so name conv other act (took b) is.0 is.1; starts = λ past. refl; started = λ past. refl; plays = λ past. refl }
acts name act (Ask n conv b) is = record { acts = λ other. named_so name conv other act (asked b) is.0 is.1; starts = λ past. refl; started = λ past. refl; plays = λ past. refl }
acts name act (Heard conv b) is = record { acts = λ other. named_so name conv other act (answered b) is.0 is.1; starts = λ past. refl; started = λ past. refl; plays = λ past. refl }
acts name act (Unheard conv) is = record { acts = λ other. named_so name conv other act unanswered is.0 is.1; starts = λ past. refl; started = λ past. refl; plays = λ past. refl }
acts name act (Accept conv cuid suid) is = record { acts = λ other. named_so name conv other act (accepted cuid suid) is.0 is.1; starts = λ past. refl; started = λ past. refl; plays = λ past. refl }
acts name act (Fail conv cause) is = record { acts = λ other. named_so name conv other act (failed cause) is.0 is.1; starts = λ past. refl; started = λ past. refl; plays = λ past. refl }
acts name act (Start conv p r w) is = absurd is
acts name act (Reply conv answer) is = absurd is
acts name act (Refused node answer) is = absurd is
acts name act (AsGot session b words) is = absurd is
acts name act (AsGave n session b) is = absurd is
acts name act (AsEnd session) is = absurd is
acts name act (Restart node) is = absurd is
acts name act Reload is = absurd is

-- ---- what stands under a name

labels_of : (l : Labelling) (name : List ℕ) (step : Step) (past : History) (done : List Act) → act_in name step ≡ done → labelled l name (step ∷ past) ≡ map (labelled_act l past) done ++ labelled l name past
labels_of l name step past done e = ap (λ xs. map (labelled_act l past) xs ++ labelled l name past) e

own_there : (l : Labelling) (name : List ℕ) (step : Step) (past : History) → started_as name (step ∷ past) ≡ started_as name past → own_in l name (step ∷ past) ≡ own_in l name past
own_there l name step past e = ap (λ (o : Option ℕ). own_for (elim o as (λ x. ℕ) [ Some n ↦ n | None ↦ 0 ]) (l.holder name)) e

stays : (l : Labelling) (name : List ℕ) (step : Step) (past : History) (o : Option Conversation) → Leaves name step → TalkIs l name past o → TalkIs l name (step ∷ past) o
stays l name step past None a t = labels_of l name step past [] a.acts ∙ t
stays l name step past (Some c) a t = record {
  plays = a.plays past ∙ t.plays;
  stands = subst (λ own. StandsFor own (role_of c.role) (labelled l name (step ∷ past)) c) (sym (own_there l name step past (a.started past)))
      (subst (λ done. StandsFor (own_in l name past) (role_of c.role) done c) (sym (labels_of l name step past [] a.acts)) t.stands);
}

-- one changed, and the others are what they were
changed : (l : Labelling) (past : History) (step : Step) (name : List ℕ) (now : Conversation) (old new : Conversations)
    → ((other : List ℕ) → talk_at new other ≡ cond (bytes_eq name other) (Some now) (talk_at old other))
    → IsTalk l name (step ∷ past) now → ((other : List ℕ) → bytes_eq name other ≡ false → Leaves other step)
    → ((other : List ℕ) → TalkIs l other past (talk_at old other)) → (other : List ℕ) → TalkIs l other (step ∷ past) (talk_at new other)
changed l past step name now old new others here apart each other = elim (cases_Bool (bytes_eq name other)) [
  | inl is ↦ subst (λ (o : Option Conversation). TalkIs l other (step ∷ past) o) (sym (others other ∙ cond-true _ _ _ is))
      (subst (λ (x : List ℕ). IsTalk l x (step ∷ past) now) ((bytes_decides name other).0 is) here)
  | inr is ↦ subst (λ (o : Option Conversation). TalkIs l other (step ∷ past) o) (sym (others other ∙ cond-false _ _ _ is))
      (stays l other step past (talk_at old other) (apart other is) (each other))
]

its : (name : List ℕ) → bytes_eq name name ≡ true
its name = (bytes_decides name name).1 refl

there : (l : Labelling) (past : History) (name : List ℕ) (o : Option Conversation) (c : Conversation) → o ≡ Some c → TalkIs l name past o → IsTalk l name past c
there l past name o c e t = subst (λ (x : Option Conversation). TalkIs l name past x) e t

nothing_there : (l : Labelling) (past : History) (name : List ℕ) (o : Option Conversation) → o ≡ None → TalkIs l name past o → labelled l name past ≡ []
nothing_there l past name o e t = subst (λ (x : Option Conversation). TalkIs l name past x) e t

-- who did nothing hasn't started, and who plays a role has
none_before : {A : Type 0} (xs ys : List A) → xs ++ ys ≡ [] → xs ≡ []
none_before [] ys e = refl
none_before (x ∷ xs) ys e = absurd (cc)

none_mapped : {A B : Type 0} (f : A → B) (xs : List A) → map f xs ≡ [] → xs ≡ []
none_mapped f [] e = refl
none_mapped f (x ∷ xs) e = absurd (cc)

idle : (l : Labelling) (name : List ℕ) (past : History) → labelled l name past ≡ [] → started_as name past ≡ None
idle l name [] none = refl
idle l name (step ∷ past) none =
    let here = none_mapped (labelled_act l past) (act_in name step) (none_before _ (labelled l name past) none) in
    (leaves name step here).started past ∙ idle l name past (sym (labels_of l name step past [] here) ∙ none)

pub started_there : (l : Labelling) (past : History) (name : List ℕ) (talks : Conversations) → Stand l past talks → talk_at talks name ≡ None → started_as name past ≡ None
started_there l past name talks h e = idle l name past (nothing_there l past name (talk_at talks name) e (h.each name))

unplayed : (name : List ℕ) (past : History) → started_as name past ≡ None → plays name past ≡ None
unplayed name [] none = refl
unplayed name (Start conv p r w ∷ past) none = elim (cases_Bool (bytes_eq conv name)) [
  | inl same ↦ absurd (let here : Some (starts_in past) ≡ None = sym (ap (λ (b : Bool). if b then Some (starts_in past) else started_as name past) same) ∙ none in cc)
  | inr differs ↦ (by_other conv name p r w differs).plays past ∙ unplayed name past (sym ((by_other conv name p r w differs).started past) ∙ none)
]
unplayed name (Out n conv b ∷ past) none = unplayed name past none
unplayed name (In conv b ∷ past) none = unplayed name past none
unplayed name (Ask n conv b ∷ past) none = unplayed name past none
unplayed name (Heard conv b ∷ past) none = unplayed name past none
unplayed name (Unheard conv ∷ past) none = unplayed name past none
unplayed name (Accept conv cuid suid ∷ past) none = unplayed name past none
unplayed name (Fail conv cause ∷ past) none = unplayed name past none
unplayed name (Reply conv answer ∷ past) none = unplayed name past none
unplayed name (Refused node answer ∷ past) none = unplayed name past none
unplayed name (AsGot session b words ∷ past) none = unplayed name past none
unplayed name (AsGave n session b ∷ past) none = unplayed name past none
unplayed name (AsEnd session ∷ past) none = unplayed name past none
unplayed name (Restart node ∷ past) none = unplayed name past none
unplayed name (Reload ∷ past) none = unplayed name past none

started_or_not : (o : Option ℕ) (name : List ℕ) (past : History) (role : Role) → started_as name past ≡ o → plays name past ≡ Some role → HasStarted name past
started_or_not (Some n) name past role e plays_so = (n, e)
started_or_not None name past role e plays_so = absurd (let none : Some role ≡ None = sym plays_so ∙ unplayed name past e in cc)

pub begun_there : (l : Labelling) (past : History) (name : List ℕ) (talks : Conversations) (c : Conversation) → Stand l past talks → talk_at talks name ≡ Some c → HasStarted name past
begun_there l past name talks c h e = started_or_not (started_as name past) name past (role_of c.role) refl (there l past name (talk_at talks name) c e (h.each name)).plays

some_begun : (l : Labelling) (past : History) (name : List ℕ) (talks : Conversations) (o : Option Conversation) → Stand l past talks → talk_at talks name ≡ o → is_some o ≡ true → HasStarted name past
some_begun l past name talks None h e so = absurd (cc)
some_begun l past name talks (Some c) h e so = begun_there l past name talks c h e

pub begun_if : (l : Labelling) (past : History) (name : List ℕ) (talks : Conversations) → Stand l past talks → is_some (talk_at talks name) ≡ true → HasStarted name past
begun_if l past name talks h so = some_begun l past name talks (talk_at talks name) h refl so

pub free_if : (o : Option Conversation) → is_some o ≡ false → o ≡ None
free_if None so = refl
free_if (Some c) so = absurd (cc)

pub lent_or_not : (o : Option (Bor Conversation)) → is_some o ≡ is_some (option_copied o)
lent_or_not None = refl
lent_or_not (Some c) = refl

pub talk_there : (l : Labelling) (past : History) (name : List ℕ) (talks : Conversations) (c : Conversation) → Stand l past talks → talk_at talks name ≡ Some c → IsTalk l name past c
talk_there l past name talks c h e = there l past name (talk_at talks name) c e (h.each name)

-- ---- a start

own_begun : (l : Labelling) (past : History) (name : List ℕ) (p : Protocol) (r : Part) (w : List ℕ) → own_in l name (Start name p r w ∷ past) ≡ own_for (starts_in past) (l.holder name)
own_begun l past name p r w = ap (λ (b : Bool). own_for (elim (if b then Some (starts_in past) else started_as name past) as (λ x. ℕ) [ Some n ↦ n | None ↦ 0 ]) (l.holder name)) (its name)

begun_here : (l : Labelling) (past : History) (name : List ℕ) (p : Protocol) (r : Part) (w : List ℕ) (own : Own) (c : Conversation)
    → own ≡ own_for (starts_in past) (l.holder name) → labelled l name past ≡ []
    → StandsFor own (role_by p r) (labelled_act l past (started p r w) ∷ []) c
    → IsTalk l name (Start name p r w ∷ past) c
begun_here l past name p r w own c e none h = record {
  plays = ap (λ (b : Bool). if b then Some (role_by p r) else plays name past) (its name) ∙ ap Some (sym h.role_is);
  stands = subst (λ own. StandsFor own (role_of c.role) (labelled l name (Start name p r w ∷ past)) c) (e ∙ sym (own_begun l past name p r w))
      (subst (λ role. StandsFor own role (labelled l name (Start name p r w ∷ past)) c) (sym h.role_is)
      (subst (λ done. StandsFor own (role_by p r) done c) (sym (labels_of l name (Start name p r w) past (started p r w ∷ []) (ap (λ (b : Bool). if b then started p r w ∷ [] else []) (its name)) ∙ ap (λ xs. labelled_act l past (started p r w) ∷ xs) none)) h));
}

pub begun_so : (l : Labelling) (past : History) (name : List ℕ) (p : Protocol) (r : Part) (w : List ℕ) (holder : List ℕ) (c : Conversation) (old new : Conversations)
    → talk_at old name ≡ None → l.holder name ≡ holder → new.starts ≡ old.starts + 1
    → ((other : List ℕ) → talk_at new other ≡ cond (bytes_eq name other) (Some c) (talk_at old other))
    → StandsFor (own_for old.starts holder) (role_by p r) (labelled_act l past (started p r w) ∷ []) c
    → Stand l past old → Stand l (Start name p r w ∷ past) new
begun_so l past name p r w holder c old new free is more others stands h = record {
  starts = more ∙ ap (λ n. n + 1) h.starts;
  each = changed l past (Start name p r w) name c old new others
      (begun_here l past name p r w (own_for old.starts holder) c (ap (λ n. own_for n holder) h.starts ∙ ap (own_for (starts_in past)) (sym is)) (nothing_there l past name (talk_at old name) free (h.each name)) stands)
      (λ other apart. by_other name other p r w apart) h.each;
}

-- ---- an act

acts_here : (l : Labelling) (past : History) (step : Step) (name : List ℕ) (done : Act) (c now : Conversation) → Acts name done step
    → StandsFor (own_in l name past) (role_of c.role) (labelled_act l past done ∷ labelled l name past) now
    → plays name past ≡ Some (role_of c.role) → IsTalk l name (step ∷ past) now
acts_here l past step name done c now a h plays_so = record {
  plays = a.plays past ∙ plays_so ∙ ap Some (sym h.role_is);
  stands = subst (λ own. StandsFor own (role_of now.role) (labelled l name (step ∷ past)) now) (sym (own_there l name step past (a.started past)))
      (subst (λ role. StandsFor (own_in l name past) role (labelled l name (step ∷ past)) now) (sym h.role_is)
      (subst (λ done. StandsFor (own_in l name past) (role_of c.role) done now) (sym (labels_of l name step past (done ∷ []) (a.acts name ∙ ap (λ (b : Bool). if b then done ∷ [] else []) (its name)))) h));
}

pub acted_so : (l : Labelling) (past : History) (step : Step) (name : List ℕ) (done : Act) (c now : Conversation) (old new : Conversations)
    → IsActOf name done step → talk_at old name ≡ Some c → new.starts ≡ old.starts
    → ((other : List ℕ) → talk_at new other ≡ cond (bytes_eq name other) (Some now) (talk_at old other))
    → (IsTalk l name past c → StandsFor (own_in l name past) (role_of c.role) (labelled_act l past done ∷ labelled l name past) now)
    → Stand l past old → Stand l (step ∷ past) new
acted_so l past step name done c now old new is found same others so h =
    let a = acts name done step is in
    let was = there l past name (talk_at old name) c found (h.each name) in
    record {
      starts = same ∙ h.starts ∙ sym (a.starts past);
      each = changed l past step name now old new others (acts_here l past step name done c now a (so was) was.plays)
          (λ other apart. leaves other step (a.acts other ∙ ap (λ (b : Bool). if b then done ∷ [] else []) apart)) h.each;
    }

-- ---- a step of no conversation

none_starts : (step : Step) (past : History) → IsBeside step → starts_in (step ∷ past) ≡ starts_in past
none_starts (Start conv p r w) past none = absurd (let here : started p r w ∷ [] ≡ [] = sym (ap (λ (b : Bool). if b then started p r w ∷ [] else []) (its conv)) ∙ none conv in cc)
none_starts (Out n conv b) past none = refl
none_starts (In conv b) past none = refl
none_starts (Ask n conv b) past none = refl
none_starts (Heard conv b) past none = refl
none_starts (Unheard conv) past none = refl
none_starts (Accept conv cuid suid) past none = refl
none_starts (Fail conv cause) past none = refl
none_starts (Reply conv answer) past none = refl
none_starts (Refused node answer) past none = refl
none_starts (AsGot session b words) past none = refl
none_starts (AsGave n session b) past none = refl
none_starts (AsEnd session) past none = refl
none_starts (Restart node) past none = refl
none_starts Reload past none = refl

pub stand_beside : (l : Labelling) (past : History) (step : Step) (talks : Conversations) → IsBeside step → Stand l past talks → Stand l (step ∷ past) talks
stand_beside l past step talks beside h = record {
  starts = h.starts ∙ sym (none_starts step past beside);
  each = λ name. stays l name step past (talk_at talks name) (leaves name step (beside name)) (h.each name);
}

-- ---- what is given

pub given_so : (l : Labelling) (past : History) (name : List ℕ) (done : Act) (c : Conversation) (labels : List Tree) (s : Setting) → IsTalk l name past c → IsSettingAt s l name past
    → ((number : ℕ) → given s (events_by number (own_in l name past) (role_of c.role) (labelled l name past) (labelled_act l past done)) ≡ labels)
    → given s (conv_events s l past name done) ≡ labels
given_so l past name done c labels s t is by =
    let n = number_of name past in
    let one : Some (s.role n) ≡ Some (role_of c.role) = sym is.role_is ∙ t.plays in
    let role : s.role n ≡ role_of c.role = cc in
    ap (λ own. given s (events_by n own (s.role n) (labelled l name past) (labelled_act l past done))) is.own_is
    ∙ ap (λ role. given s (events_by n (own_in l name past) role (labelled l name past) (labelled_act l past done))) role ∙ by n
