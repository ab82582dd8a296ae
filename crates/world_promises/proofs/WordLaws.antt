-- What was started has a word of eight bytes, where each agent does as its conversations do.
use Rattle.std.proofs.Common.{◌≡◌, ℕ, List, [], ◌∷◌, Option, Some, None, Bool, true, false, ◌⊎◌, inl, inr, if◌then◌else◌, refl, sym, ap, subst, ◌∙◌}
use Rattle.std.specs.Str.{bytes_eq}
use Rattle.std.proofs.lemmas.Bool.{cases_Bool}
use Rattle.sealing.specs.Fitting.{IsBlock}
use Rattle.roles.specs.Starts.{Start}
use Rattle.roles.specs.Talks.{Call as Move, heard, unheard}
use Rattle.talks.specs.Standings.{Begun, Waiting, carried_out, made}
use Rattle.agent_history.specs.declared.event.Event.{Event}
use Rattle.agent_history.specs.declared.event.Event.TheVariants.{NoAnswer}
use Rattle.agent_history.specs.declared.event.Event.TheVariants as events
use Rattle.agent_history.specs.Conversations.{opened_talks}
use Rattle.agent_history.specs.Histories.{History, deeds}
use Rattle.world_history.specs.Acts.{Act, Talk, Domain, KeyLine, SpeakLine, Reloaded, Made, Restarted, Told, Opened, Started, Got, Given, Answered, Unanswered, Asked, Closed, agent_of, talk_of}
use Rattle.world_history.specs.Driving.{drive, is_refused, new_node, reads, replies_to}
use Rattle.world_history.specs.Talking.{Asks, gets, gives, request_text, requested, starts, word_of}
use Rattle.world_history.specs.Turns.{Turn, after, asks, closes, hears, lets_open, misses, tells}
use Rattle.world_history.specs.Worlds.{Done, done_by, fid_for, history, history_by, on_talk}
use Rattle.driven_agents.specs.Quiet.{NamesNoLines}
use Rattle.driven_agents.proofs.NamesLaws.{names_no_lines}
use Rattle.world_promises.specs.Begun.{BegunWith}
use Rattle.world_promises.specs.Telling.{idle, on_server}
use Rattle.world_promises.proofs.BegunLaws.{IsNew, carried_of, made_of, searched_of}
use Rattle.world_promises.specs.Agents.{AgentDoes, AgentsDo, AnswerDoes, DoesTo, IsCarried, RequestDoes, TurnDoes, asked_as, begun_in, conv_in, is_carried, is_turned_away, isnt_read, write_of}
use Rattle.world_promises.specs.Conditions.{AreDone}
use Rattle.world_promises.specs.Settings.{Place, next_place, place_of}
use Rattle.world_promises.proofs.LeaveLemmas.{behind_takes, close_stays, events_leave, opened_new, opening_leaves, stays_so, write_stays}
use Rattle.world_promises.proofs.PlaceLemmas.{not_made, not_restarted, unplaced}

abbrev pub Word : Start → Type 0
Word start = IsBlock 8 start.word

-- a turn that starts a conversation has such a word
abbrev pub HasWord : Asks → Type 0
HasWord (starts word tuple) = IsBlock 8 word
HasWord gets = Unit {0}
HasWord (gives bytes) = Unit {0}

new_word : (what : Asks) → HasWord what → IsNew Word (word_of what) (asked_as what)
new_word (starts word tuple) has text t is some none = has
new_word gets has text t is some none = cc is
new_word (gives bytes) has text t is some none = cc is

-- ---- one turn

stays : (before now : Option Begun) → now ≡ before → BegunWith Word before → BegunWith Word now
stays before now same so = subst (BegunWith Word) (sym same) so

carried_word : (number fid : ℕ) (what : Asks) (h : History) → HasWord what → IsCarried number fid what h → BegunWith Word (begun_in h number) → BegunWith Word (begun_in (drive (reads fid (word_of what)) h) number)
carried_word number fid what h has does so =
    let before = idle does.begun (Waiting (asked_as what)) does.said in
    let mine : BegunWith Word does.begun = subst (BegunWith Word) (ap (λ s. s.begun) does.stood) so in
    stays does.now.begun (begun_in (drive (reads fid (word_of what)) h) number) (behind_takes (reads fid (word_of what)) h number ∙ does.stands)
    (searched_of Word (carried_out before (word_of what) (asked_as what)) does.now does.searches (carried_of Word before (word_of what) (asked_as what) (new_word what has) mine))

by_write : (number : ℕ) (refused : Bool) (written read : History) → (refused ≡ true → BegunWith Word (begun_in written number)) → (refused ≡ false → BegunWith Word (begun_in read number)) → BegunWith Word (begun_in (if refused then written else read) number)
by_write number true written read first second = first refl
by_write number false written read first second = second refl

request_word : (number fid : ℕ) (what : Asks) (h : History) → HasWord what → NamesNoLines (deeds h) → RequestDoes number fid what h → BegunWith Word (begun_in h number) → BegunWith Word (begun_in (requested fid what h) number)
request_word number fid what h has quiet (is_turned_away refused none) so =
    let write = write_of fid what in
    by_write number (is_refused (replies_to write h)) (drive write h) (drive (reads fid (word_of what)) (drive write h)) (λ is. stays (begun_in h number) (begun_in (drive write h) number) (write_stays number fid (request_text what) h quiet) so) (λ is. absurd (cc (sym is ∙ refused)))
request_word number fid what h has quiet (isnt_read granted does) so =
    let write = write_of fid what in
    by_write number (is_refused (replies_to write h)) (drive write h) (drive (reads fid (word_of what)) (drive write h)) (λ is. absurd (cc (sym is ∙ granted)))
    (λ is. stays (begun_in (drive write h) number) (begun_in (drive (reads fid (word_of what)) (drive write h)) number) (stays_so (reads fid (word_of what)) (drive write h) number does.stays) (stays (begun_in h number) (begun_in (drive write h) number) (write_stays number fid (request_text what) h quiet) so))
request_word number fid what h has quiet (is_carried granted does) so =
    let write = write_of fid what in
    by_write number (is_refused (replies_to write h)) (drive write h) (drive (reads fid (word_of what)) (drive write h)) (λ is. absurd (cc (sym is ∙ granted)))
    (λ is. carried_word number fid what (drive write h) has does (stays (begun_in h number) (begun_in (drive write h) number) (write_stays number fid (request_text what) h quiet) so))

answer_word : (number fid : ℕ) (event : Event) (call : Move) (h : History) → AnswerDoes number fid event call h → BegunWith Word (begun_in h number) → BegunWith Word (begun_in (drive event h) number)
answer_word number fid event call h does so =
    let mine : BegunWith Word (Some does.begun) = subst (BegunWith Word) (ap (λ s. s.begun) does.stood) so in
    let before = on_server does.begun does.starting does.said in
    stays (made before call (Some does.begun)).begun (begun_in (drive event h) number) (behind_takes event h number ∙ does.stands) (made_of Word before call (Some does.begun) mine mine)

abbrev pub TurnHasWord : Turn → Type 0
TurnHasWord (asks conv fid what) = HasWord what
TurnHasWord (tells node line) = Unit {0}
TurnHasWord (lets_open fid) = Unit {0}
TurnHasWord (hears conv fid call bytes) = Unit {0}
TurnHasWord (misses conv fid call) = Unit {0}
TurnHasWord (closes conv fid) = Unit {0}

turn_word : (number : ℕ) (turn : Turn) (h : History) → TurnHasWord turn → NamesNoLines (deeds h) → TurnDoes number turn h → BegunWith Word (begun_in h number) → BegunWith Word (begun_in (after turn h) number)
unfolding after
turn_word number (tells node line) h has quiet does so = stays (begun_in h number) _ (write_stays number 1 line h quiet) so
turn_word number (lets_open fid) h has quiet does so = stays (begun_in h number) _ (opening_leaves number fid h) so
turn_word number (asks conv fid what) h has quiet does so = request_word number fid what h has quiet does so
turn_word number (hears conv fid call bytes) h has quiet does so = answer_word number fid (events.Answer call bytes) (heard bytes) h does so
turn_word number (misses conv fid call) h has quiet does so = answer_word number fid (NoAnswer call) unheard h does so
turn_word number (closes conv fid) h has quiet does so = stays (begun_in h number) _ (close_stays number fid h quiet) so

done_word : (b : Bool) (number : ℕ) (turn : Turn) (h : History) → TurnHasWord turn → NamesNoLines (deeds h) → DoesTo b number turn h → BegunWith Word (begun_in h number) → BegunWith Word (begun_in (after turn h) number)
done_word true number turn h has quiet does so = turn_word number turn h has quiet does so
done_word false number turn h has quiet leaves so = stays (begun_in h number) (begun_in (after turn h) number) (events_leave number turn h quiet leaves) so

-- ---- one act

by_node : (b : Bool) (turn : Turn) (h : History) (number : ℕ) → (b ≡ true → BegunWith Word (begun_in (after turn h) number)) → BegunWith Word (begun_in h number) → BegunWith Word (begun_in (if b then after turn h else h) number)
by_node true turn h number there here = there refl
by_node false turn h number there here = here

-- what is known of a place
abbrev At : List Act → Place → Type 0
At acts place = BegunWith Word (begun_in (history acts place.agent) place.number)

by_done : (before : List Act) (act : Act) → AgentDoes before act → (done : Option Done) → done_by before act ≡ done → ((d : Done) → done ≡ Some d → TurnHasWord d.turn) → (name : List ℕ) (place : Place) → place_of before name ≡ Some place → At before place → BegunWith Word (begun_in (history_by done place.agent (history before place.agent)) place.number)
by_done before act agent None is has name place at so = so
by_done before act agent (Some d) is has name place at so =
    by_node (bytes_eq d.agent place.agent) d.turn (history before place.agent) place.number
    (λ here. done_word (bytes_eq (conv_in d.turn) name) place.number d.turn (history before place.agent) (has d refl) (names_no_lines before place.agent) (agent.turns d name place is at here) so)
    so

-- a conversation's turn
same_has : (one other : Done) → Some one ≡ Some other → TurnHasWord one.turn → TurnHasWord other.turn
same_has one other is has = let same : one ≡ other = cc is in subst (λ d. TurnHasWord d.turn) same has

turn_has : (before : List Act) (o : Option Talk) (turn : ℕ → Turn) → ((fid : ℕ) → TurnHasWord (turn fid)) → (d : Done) → on_talk before o turn ≡ Some d → TurnHasWord d.turn
turn_has before None turn has d is = absurd (cc is)
turn_has before (Some t) turn has d is = same_has (record { agent = agent_of before t.node; turn = turn t.fid }) d is (has t.fid)

-- the place was there before
each_word : (before : List Act) (act : Act) → AreDone (act ∷ before) → AgentDoes before act → (name : List ℕ) (place : Place) → place_of before name ≡ Some place → At before place → At (act ∷ before) place
each_word before (Domain dom) done agent name place at so = so
each_word before (KeyLine tuple) done agent name place at so = so
each_word before (SpeakLine tuple) done agent name place at so = so
each_word before (Asked session request words) done agent name place at so = so
each_word before (Made node) done agent name place at so = subst (λ b. BegunWith Word (begun_in (if b then new_node else history before place.agent) place.number)) (sym (not_made before done.1 node name place done.0.fits at)) so
each_word before Reloaded done agent name place at so = so
each_word before (Restarted node) done agent name place at so = subst (λ b. BegunWith Word (begun_in (if b then new_node else history before place.agent) place.number)) (sym (not_restarted before done.1 node name place at)) so
each_word before (Told node line) done agent name place at so = by_done before (Told node line) agent (Some (record { agent = agent_of before node; turn = tells node line })) refl (λ d is. same_has (record { agent = agent_of before node; turn = tells node line }) d is tt) name place at so
each_word before (Opened node conv) done agent name place at so = by_done before (Opened node conv) agent (Some (record { agent = agent_of before node; turn = lets_open (fid_for before node) })) refl (λ d is. same_has (record { agent = agent_of before node; turn = lets_open (fid_for before node) }) d is tt) name place at so
each_word before (Started conv word tuple) done agent name place at so = by_done before (Started conv word tuple) agent (on_talk before (talk_of before conv) (λ fid. asks conv fid (starts word tuple))) refl (turn_has before (talk_of before conv) (λ fid. asks conv fid (starts word tuple)) (λ fid. done.0.spelled)) name place at so
each_word before (Got conv) done agent name place at so = by_done before (Got conv) agent (on_talk before (talk_of before conv) (λ fid. asks conv fid gets)) refl (turn_has before (talk_of before conv) (λ fid. asks conv fid gets) (λ fid. tt)) name place at so
each_word before (Given conv bytes) done agent name place at so = by_done before (Given conv bytes) agent (on_talk before (talk_of before conv) (λ fid. asks conv fid (gives bytes))) refl (turn_has before (talk_of before conv) (λ fid. asks conv fid (gives bytes)) (λ fid. tt)) name place at so
each_word before (Answered conv bytes call) done agent name place at so = by_done before (Answered conv bytes call) agent (on_talk before (talk_of before conv) (λ fid. hears conv fid call bytes)) refl (turn_has before (talk_of before conv) (λ fid. hears conv fid call bytes) (λ fid. tt)) name place at so
each_word before (Unanswered conv call) done agent name place at so = by_done before (Unanswered conv call) agent (on_talk before (talk_of before conv) (λ fid. misses conv fid call)) refl (turn_has before (talk_of before conv) (λ fid. misses conv fid call) (λ fid. tt)) name place at so
each_word before (Closed conv) done agent name place at so = by_done before (Closed conv) agent (on_talk before (talk_of before conv) (λ fid. closes conv fid)) refl (turn_has before (talk_of before conv) (λ fid. closes conv fid) (λ fid. tt)) name place at so

-- ---- all acts

by_old : (before : List Act) (act : Act) → AreDone (act ∷ before) → AgentDoes before act → (name : List ℕ) (place : Place) → place_of (act ∷ before) name ≡ Some place → (old : Option Place) → place_of before name ≡ old → (old ≡ None ⊎ old ≡ Some place) → ((p : Place) → place_of before name ≡ Some p → At before p) → At (act ∷ before) place
by_old before act done agent name place is None none same each = subst (BegunWith Word) (sym (opened_new before act agent.opens name place none is)) tt
by_old before act done agent name place is (Some p) old (inl wrong) each = absurd (cc wrong)
by_old before act done agent name place is (Some p) old (inr same) each = each_word before act done agent name place (old ∙ same) (each place (old ∙ same))

-- an act leaves a place where it was
old_place : (before : List Act) (act : Act) → AreDone (act ∷ before) → (name : List ℕ) (place : Place) → place_of (act ∷ before) name ≡ Some place → (place_of before name ≡ None) ⊎ (place_of before name ≡ Some place)
old_place before (Opened node conv) done name place is = elim (cases_Bool (bytes_eq conv name)) [
  | inl same ↦ inl (unplaced before node conv name done.0.fits same)
  | inr other ↦ inr (sym (ap (λ b. if b then Some (next_place before node) else place_of before name) other) ∙ is)
]
old_place before act done name place is = inr is

pub words_so : (acts : List Act) → AreDone acts → AgentsDo acts → (name : List ℕ) (place : Place) → place_of acts name ≡ Some place → At acts place
words_so [] done does name place is = absurd (cc is)
words_so (act ∷ before) done does name place is = by_old before act done does.0 name place is (place_of before name) refl (old_place before act done name place is) (words_so before done.1 does.1 name)
