-- What a request that is carried out does where nobody can be asked: the searches, the question that is raised, and the log.
use Rattle.std.proofs.Common.{◌≡◌, ℕ, ◌+◌, List, [], ◌∷◌, ◌++◌, Bool, true, false, refl, sym, ap, subst, ◌∙◌}
use Rattle.file_tree.specs.declared.tree.Node.TheVariants.{Confirm, Needkey}
use Rattle.talks.specs.Requests.{RpcRequest}
use Rattle.talks.specs.Calls as calls
use Rattle.talks.specs.Lines.{log_lines}
use Rattle.talks.specs.Standings.{Phase, Resting, Waiting, Seeking, OnConfirm, OnNeedkey, OnServer, Kept, Standing, carried_out, standing, then_stands}
use Rattle.agent_history.specs.Deeds.{Deed, OfTalk, is_debug, keys_of}
use Rattle.agent_history.specs.SideFiles.{all_served}
use Rattle.agent_history.specs.Conversations.{Question, asking, met, questions, raised, raising, seeking_all, standing_of, talk, then_logged, then_raised, then_sought}
use Rattle.driven_agents.specs.Quiet.{NamesNoLines}
use Rattle.driven_agents.proofs.QuietLaws.{holder_none}
use Rattle.world_promises.specs.Telling.{Searches}
use Rattle.driven_agents.proofs.CallLemmas.{nobody_served}
use Rattle.world_promises.proofs.SearchDeeds.{IsShut, Rests, SearchedOn, ran, ran_on, searched_on, times}
use Rattle.world_promises.proofs.TalkSides.{Going, all_logged_on, raised_going, same_going, stands_here, talk_going}

-- so many searches may follow
abbrev pub most_searches : Bool → ℕ
most_searches true = 3
most_searches false = 1

seeking_times : (starting : Bool) (conv : ℕ) (done : List Deed) → seeking_all starting conv done ≡ times (most_searches starting) conv done
seeking_times true conv done = refl
seeking_times false conv done = refl

-- the questions behind it: one more, where the authentication server is asked
abbrev pub next_asked : ℕ → List Deed → Question
next_asked conv done = record { call = raised done + 1; conv = conv; handed = false }

abbrev pub asked_then : ℕ → Phase → List Deed → List Question
asked_then conv OnServer done = questions done ++ next_asked conv done ∷ []
asked_then conv phase done = questions done

pub record MetSo (conv : ℕ) (word : List ℕ) (request : RpcRequest) (s : Standing) (from done : List Deed) : Type 0 where
  pub going : Going conv from done
  pub searches : Searches (carried_out s word request) (standing_of done conv)
  pub asked : questions done ≡ asked_then conv (standing_of done conv).phase from
  pub ran : standing_of done conv ≡ ran (most_searches (carried_out s word request).starting) (keys_of from) (asking from) (carried_out s word request)

-- ---- a question is raised, or none

raised_by : (conv : ℕ) (from done : List Deed) (phase : Phase) → Going conv from done → questions done ≡ questions from → raised done ≡ raised from → (going : Going conv from (raising conv phase done)) × (talk (raising conv phase done) conv ≡ talk done conv) × (questions (raising conv phase done) ≡ asked_then conv phase from)
raised_by conv from done OnServer g asked risen = (raised_going conv from done g, refl, ap (λ qs. qs ++ record { call = raised done + 1; conv = conv; handed = false } ∷ []) asked ∙ ap (λ n. questions from ++ record { call = n + 1; conv = conv; handed = false } ∷ []) risen)
raised_by conv from done Resting g asked risen = (g, refl, asked)
raised_by conv from done (Waiting request) g asked risen = (g, refl, asked)
raised_by conv from done Seeking g asked risen = (g, refl, asked)
raised_by conv from done (OnConfirm serial) g asked risen = (g, refl, asked)
raised_by conv from done OnNeedkey g asked risen = (g, refl, asked)
raised_by conv from done (Kept answer) g asked risen = (g, refl, asked)

pub shut_of : (done : List Deed) → NamesNoLines done → IsShut done
shut_of done names = (holder_none done Confirm refl names, holder_none done Needkey refl names)

same_named : {conv : ℕ} {from done : List Deed} → Going conv from done → NamesNoLines from → NamesNoLines done
same_named g names = ap (λ s. s.named) g.side ∙ names

-- what stands behind one call stands behind another
then_going : (conv : ℕ) (one two three : List Deed) → Going conv one two → Going conv two three → Going conv one three
then_going conv one two three g h = record { side = h.side ∙ g.side; others = λ other off. h.others other off ∙ g.others other off; keys = h.keys ∙ g.keys }

pub met_so : (conv : ℕ) (word : List ℕ) (request : RpcRequest) (s : Standing) (done : List Deed) → NamesNoLines done → standing_of done conv ≡ s → s.phase ≡ Waiting request
    → Rests (most_searches (carried_out s word request).starting) (keys_of done) (asking done) (carried_out s word request) → MetSo conv word request s done (met conv (calls.CarriedOut word) done)
met_so conv word request s done names stood waits r =
    let one = OfTalk conv (calls.CarriedOut word) ∷ done in
    let begins : standing_of one conv ≡ carried_out s word request = stands_here conv (calls.CarriedOut word) done s stood ∙ ap (λ p. then_stands s p (calls.CarriedOut word)) waits in
    let n = most_searches (standing_of one conv).starting in
    let rests : Rests n (keys_of one) (asking one) (standing_of one conv) = subst (λ x. Rests (most_searches x.starting) (keys_of done) (asking done) x) (sym begins) r in
    let two = then_sought conv one in
    let found : SearchedOn conv done two (standing_of one conv) =
    subst (λ d. SearchedOn conv done d (standing_of one conv)) (sym (seeking_times (standing_of one conv).starting conv one))
    (searched_on n conv done one (shut_of done names) (talk_going conv done done (calls.CarriedOut word) (same_going conv done)) refl refl rests) in
    let three = then_raised conv two in
    let rise = raised_by conv done two (standing_of two conv).phase found.going found.asked found.risen in
    let four = then_logged conv (standing_of done conv) three in
    let lines = all_logged_on conv (log_lines (is_debug three) conv (standing_of done conv) (standing_of three conv)) three in
    let far = then_going conv done three four rise.0 lines.going in
    let still = same_named far names in
    let five : all_served four ≡ four = nobody_served four still in
    let same : standing_of four conv ≡ standing_of two conv = ap standing (lines.talks conv ∙ rise.1) in
    subst (MetSo conv word request s done) (sym five)
    (record {
      going = far;
      searches = subst (λ x. Searches (carried_out s word request) x) (sym same) (subst (λ x. Searches x (standing_of two conv)) begins found.searches);
      asked = lines.asked ∙ (rise.2 ∙ ap (λ x. asked_then conv x.phase done) (sym same));
      ran = same ∙ (ap (λ d. standing_of d conv) (seeking_times (standing_of one conv).starting conv one) ∙ (ran_on n conv one (shut_of done names) ∙ ap (λ x. ran (most_searches x.starting) (keys_of done) (asking done) x) begins));
    })
