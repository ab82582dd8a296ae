-- What the other calls change of a conversation as it is shown; what it searches for, and the lines that it writes into the log,
-- by what is shown of it.
use Rattle.std.proofs.Common.{◌≡◌, ℕ, List, [], ◌∷◌, ◌++◌, map, Bool, true, false, cond, ◌&&◌, ◌||◌, not, Option, Some, None, Result, Ok, Err, refl, sym, ap, ◌∙◌, codes, subst}
use Rattle.std.specs.Prelude.{option_map, is_some}
use Rattle.std.specs.Fmt.{decimal}
use Rattle.attr_tuples.specs.Words.{value_text}
use Rattle.attr_tuples.specs.declared.attr.Attr.{Attr}
use Rattle.attr_tuples.specs.declared.fault.TupleFault.{TupleFault}
use Rattle.attr_tuples.specs.Attributes.{is_secret, is_tuple}
use Rattle.attr_tuples.specs.Grammar.{tuple_of}
use Rattle.attr_tuples.specs.Matching.{value_of}
use Rattle.attr_tuples.specs.Printing.{hidden, public_text}
use Rattle.attr_tuples.proofs.PrintedLemmas.{printed_read}
use Rattle.key_lists.specs.Lists.{KeyList}
use Rattle.key_lists.specs.CtlLines.{few_of}
use Rattle.roles.specs.declared.answer.Cause.{Cause}
use Rattle.roles.specs.declared.answer.Cause.TheVariants as cause
use Rattle.roles.specs.declared.answer.StartFault.{StartFault}
use Rattle.roles.specs.declared.need.Need.{Need}
use Rattle.roles.specs.declared.need.Need.TheVariants.{Nothing, Key, Offers, Pick, Exchange}
use Rattle.roles.specs.declared.need.Outcome.{Outcome}
use Rattle.roles.specs.declared.need.Outcome.TheVariants.{Running, Accepted, Finished, Broken}
use Rattle.roles.specs.Answers.{IsExchange, is_sought}
use Rattle.roles.specs.Talks.{found, get, give, heard, roomless, unheard, Call as Move}
use Rattle.talks.specs.Protocols.{answers, ends, is_over, needs, puts, refuses}
use Rattle.talks.proofs.Laws.{heard_needs, roomless_needs, unheard_needs}
use Rattle.talks.specs.RpcAnswers.{title_of}
use Rattle.talks.specs.Requests.{RpcRequest, starts, reads, writes, asks_info, asks_attributes}
use Rattle.talks.specs.declared.answer.RpcAnswer.{RpcAnswer}
use Rattle.talks.specs.declared.answer.RpcAnswer.TheVariants as a
use Rattle.talks.specs.declared.said.Said.{Said}
use Rattle.talks.specs.declared.said.Asking.{Asking}
use Rattle.talks.specs.Answers.{move_answer, text_or_none}
use Rattle.talks.specs.Calls as calls
use Rattle.talks.specs.Lines.{end_line, end_part, error_line, is_end, log_lines, start_part, start_template}
use Rattle.talks.specs.Searches.{found_by, offered_by}
use Rattle.talks.specs.Standings.{Begun, Phase, Resting, Waiting, Seeking, OnConfirm, OnNeedkey, OnServer, Kept, Standing, begin, carried_out, finds, found_for, made, moved, need_in, needs_key, nothing_said, outcome_of, phase_after, refused, role_name, says_of, start_by, started, standing, template_in, template_of, then_stands, with_move}
use Rattle.agent_laws.specs.Shown.{ShownEnd, AcceptsNone, Accepts, Breaks, shown_end, ShownNeed, NeedsNothing, Searches, Picks, NeedsServer, ShownRequest, Starts, Reads, Writes, AsksInfo, AsksAttributes, ShownResult, came_by, came_to, shown_need, shown_request}
use Rattle.agent_laws.proofs.HiddenLaws.{hidden_list}
use Rattle.agent_laws.proofs.LineLaws.{few_tuple, hidden_tuple, shown_text as text_shown}
use Rattle.agent_laws.proofs.LeadLaws.{Next, NextNeed, NoNeed, KeyNeed, OffersNeed, PickNeed, ServerNeed, any_key, next_need, next_of, is_open_need, need_is_open, roomless_breaks, undone_runs, unheard_breaks}
use Rattle.agent_laws.proofs.PutLaws.{IsAsked, Wants, waits_with_question}
use Rattle.agent_laws.proofs.SeekLaws.{ShownFound, FindsNone, HasOffers, HasPick, found_hidden, offered_hidden, shown_found, value_hidden}
use Rattle.agent_laws.proofs.SideLaws.{Sought, began_next, began_so, is_any, moved_next, moved_so, next_named}
use Rattle.talks.proofs.EndLaws.{none_at_the_end}
use Rattle.conversations.proofs.WaitLaws.{waits_idle}
use Rattle.agent_laws.proofs.AloneLaws.{began_not_alone, given_alone, gives_digits, got_alone, heard_not_alone, is_alone, is_got}
use Rattle.agent_laws.proofs.ShownLaws.{Ending, EndsNot, EndsBy, EndsAlone, EndsBroken, ending_of, endings, led_after, led_of, Shown, ShownPhase, Idle, Waits, Seeks, AtConfirm, AtNeedkey, AtServer, behind, in_shown, moved_shown, refused_shown, settled, shown, shown_at, shown_phase, standing_at, told_in}

-- ---- a request is carried out

-- it was started by this, or before it
abbrev takes : {X : Type 0} → Option Ending → Option ShownEnd → X → X → X
takes None (Some end) new old = new
takes None None new old = old
takes (Some end) now new old = old

abbrev value_in : List ℕ → Result (List Attr) TupleFault → Option (List ℕ)
value_in name (Ok template) = value_of name template
value_in name (Err fault) = None

abbrev named_by : List ℕ → ShownRequest → Option (List ℕ)
named_by name (Starts (Some text)) = value_in name (tuple_of text)
named_by name (Starts None) = None
named_by name Reads = None
named_by name Writes = None
named_by name AsksInfo = None
named_by name AsksAttributes = None

-- what is needed, by what is shown of it and what a key leads to
abbrev with_next : ShownNeed → Bool → Next → NextNeed
with_next NeedsNothing offers next = NoNeed
with_next (Searches template) true next = OffersNeed template
with_next (Searches template) false next = KeyNeed template next
with_next (Picks templates) offers next = PickNeed templates
with_next NeedsServer offers next = ServerNeed

-- a start of p9any needs offers, and whatever else searches a key
abbrev offers_for : ShownRequest → Option (List ℕ) → Bool
offers_for (Starts template) proto = is_any proto
offers_for Reads proto = false
offers_for Writes proto = false
offers_for AsksInfo proto = false
offers_for AsksAttributes proto = false

-- how it has ended, by what is shown of it and whether it ended so that it accepts nobody
abbrev with_end : ShownEnd → Bool → Ending
with_end AcceptsNone true = EndsAlone
with_end AcceptsNone false = EndsNot
with_end (Accepts user) alone = EndsBy user
with_end (Breaks why) alone = EndsBroken why

abbrev was_alone : Option Ending → Bool
was_alone None = false
was_alone (Some EndsNot) = false
was_alone (Some (EndsBy user)) = false
was_alone (Some EndsAlone) = true
was_alone (Some (EndsBroken why)) = false

-- a read gave the digits of a client of APOP or CRAM
abbrev digits_for : ShownRequest → Option (List ℕ) → Option (List ℕ) → List ℕ → Bool
digits_for Reads proto role word = gives_digits proto role && is_got word
digits_for (Starts template) proto role word = false
digits_for Writes proto role word = false
digits_for AsksInfo proto role word = false
digits_for AsksAttributes proto role word = false

abbrev named : ShownRequest → Option (List ℕ) → Option (List ℕ) → Option ShownEnd → Bool → ShownNeed → Bool → Said → Shown
named request proto role end alone need starting said = record { proto = proto; role = role; ending = option_map (λ e. with_end e alone) end; phase = settled (with_next need (offers_for request proto) (next_named proto role)); starting = starting; said = said }

abbrev carried_as : ShownRequest → Option (List ℕ) → Option (List ℕ) → ShownResult → Shown → Shown
carried_as request proto role came t = named request proto role came.ending (was_alone t.ending || digits_for request proto role came.word) came.need (takes t.ending came.ending true t.starting) t.said

abbrev carried_by : ShownRequest → ShownResult → Shown → Shown
carried_by request came t = carried_as request (takes t.ending came.ending (named_by (codes "proto") request) t.proto) (takes t.ending came.ending (named_by (codes "role") request) t.role) came t

abbrev by_wait : ShownPhase → ShownResult → Shown → Shown
by_wait (Waits request) came t = carried_by request came t
by_wait Idle came t = t
by_wait (Seeks need) came t = t
by_wait (AtConfirm serial need) came t = t
by_wait (AtNeedkey need) came t = t
by_wait AtServer came t = t

abbrev pub carried_shown : ShownResult → Shown → Shown
carried_shown came t = by_wait t.phase came t

came_need : (need : Need) (answer : RpcAnswer) (end : Option ShownEnd) → (came_by (phase_after need answer) (shown_need need) end).need ≡ shown_need need
came_need Nothing answer end = refl
came_need (Key template) answer end = refl
came_need (Offers template) answer end = refl
came_need (Pick templates) answer end = refl
came_need (Exchange request shape) answer end = refl

came_end : (need : Need) (answer : RpcAnswer) (end : Option ShownEnd) → (came_by (phase_after need answer) (shown_need need) end).ending ≡ end
came_end Nothing answer end = refl
came_end (Key template) answer end = refl
came_end (Offers template) answer end = refl
came_end (Pick templates) answer end = refl
came_end (Exchange request shape) answer end = refl

abbrev next_in : Begun → Next
next_in b = next_of (needs b.start (found any_key None ∷ b.moves))

-- of a key that is needed the protocol and the role tell what it leads to
led_so : (need : Need) (offers : Bool) (next other : Next) → Sought offers need → ((template : List Attr) → need ≡ Key template → next ≡ other) → next_need need next ≡ with_next (shown_need need) offers other
led_so Nothing offers next other kind h = refl
led_so (Key template) offers next other kind h = ap (KeyNeed template) (h template refl) ∙ ap (λ (b : Bool). with_next (Searches template) b other) (sym kind)
led_so (Offers template) offers next other kind h = ap (λ (b : Bool). with_next (Searches template) b other) (sym kind)
led_so (Pick templates) offers next other kind h = refl
led_so (Exchange request shape) offers next other kind h = refl

abbrev told_next : Begun → Next
told_next b = next_named (told_in (codes "proto") (Some b)) (told_in (codes "role") (Some b))

-- a move that a request makes is shown as what it came to
record Leads (request : ShownRequest) (b : Begun) (alone : Bool) : Type 0 where
  pub kind : Sought (offers_for request (told_in (codes "proto") (Some b))) (needs b.start b.moves)
  pub leads : (template : List Attr) → needs b.start b.moves ≡ Key template → next_in b ≡ told_next b
  pub ends : is_alone (ends b.start b.moves) ≡ alone

ended_so : (o : Outcome) → ending_of o ≡ with_end (shown_end o) (is_alone o)
ended_so Running = refl
ended_so (Accepted info) = refl
ended_so Finished = refl
ended_so (Broken why) = refl

was_so : (o : Outcome) → was_alone (Some (ending_of o)) ≡ is_alone o
was_so Running = refl
was_so (Accepted info) = refl
was_so Finished = refl
was_so (Broken why) = refl

moved_came : (request : ShownRequest) (s : Standing) (b : Begun) (answer : RpcAnswer) (alone : Bool) → Leads request b alone
    → shown (moved s b answer) ≡ named request (told_in (codes "proto") (Some b)) (told_in (codes "role") (Some b)) (came_to (moved s b answer)).ending alone (came_to (moved s b answer)).need s.starting s.said
moved_came request s b answer alone l =
    let proto = told_in (codes "proto") (Some b) in
    let role = told_in (codes "role") (Some b) in
    let o = ends b.start b.moves in
    moved_shown s b answer
    ∙ ap (λ (need : NextNeed). behind proto role (ending_of o) need s.starting s.said) (led_so (needs b.start b.moves) (offers_for request proto) (next_in b) (told_next b) l.kind l.leads)
    ∙ ap (λ (end : Ending). behind proto role end (with_next (shown_need (needs b.start b.moves)) (offers_for request proto) (told_next b)) s.starting s.said) (ended_so o ∙ ap (with_end (shown_end o)) l.ends)
    ∙ sym (ap (λ (e : Option ShownEnd). named request proto role e alone (came_to (moved s b answer)).need s.starting s.said) (came_end (needs b.start b.moves) answer (Some (shown_end o)))
    ∙ ap (λ (need : ShownNeed). named request proto role (Some (shown_end o)) alone need s.starting s.said) (came_need (needs b.start b.moves) answer (Some (shown_end o))))

-- a request that makes no move leaves it as it was
still_ends : (o : Outcome) → ending_of o ≡ with_end (shown_end o) (was_alone (Some (ending_of o)) || false)
still_ends Running = refl
still_ends (Accepted info) = refl
still_ends Finished = refl
still_ends (Broken why) = refl

stays_ended : (b : Begun) (starting : Bool) (said : Said) → shown_at (Some b) Resting starting said ≡ record { proto = told_in (codes "proto") (Some b); role = told_in (codes "role") (Some b); ending = Some (with_end (shown_end (ends b.start b.moves)) (was_alone (Some (ending_of (ends b.start b.moves))) || false)); phase = Idle; starting = starting; said = said }
stays_ended b starting said = ap (λ (end : Ending). record { proto = told_in (codes "proto") (Some b); role = told_in (codes "role") (Some b); ending = Some end; phase = Idle; starting = starting; said = said }) (still_ends (ends b.start b.moves))

or_no : (x : Bool) → x ≡ (x || false)
or_no true = refl
or_no false = refl

-- where something is needed its answer has no word yet, and it hasn't ended
quiet : (x was digits y : Bool) → x ≡ (was || (digits && y)) → x ≡ false → x ≡ (was || (digits && false))
quiet x true digits y e f = absurd (let no_way : true ≡ false = sym e ∙ f in cc)
quiet x false true y e f = f
quiet x false false y e f = f

not_ended : (x : Bool) → (x ≡ true → ⊥) → x ≡ false
not_ended true h = absurd (h refl)
not_ended false h = refl

word_so : (need : Need) (answer : RpcAnswer) (end : Option ShownEnd) (x was digits : Bool) → x ≡ (was || (digits && is_got (title_of answer))) → (x ≡ true → need ≡ Nothing) → x ≡ (was || (digits && is_got (came_by (phase_after need answer) (shown_need need) end).word))
word_so Nothing answer end x was digits e over = e
word_so (Key template) answer end x was digits e over = quiet x was digits _ e (not_ended x (λ f. let no_way : Key template ≡ Nothing = over f in cc))
word_so (Offers template) answer end x was digits e over = quiet x was digits _ e (not_ended x (λ f. let no_way : Offers template ≡ Nothing = over f in cc))
word_so (Pick templates) answer end x was digits e over = quiet x was digits _ e (not_ended x (λ f. let no_way : Pick templates ≡ Nothing = over f in cc))
word_so (Exchange request shape) answer end x was digits e over = quiet x was digits _ e (not_ended x (λ f. let no_way : Exchange request shape ≡ Nothing = over f in cc))

alone_over : (o : Outcome) → is_alone o ≡ true → is_over o ≡ true
alone_over Running e = absurd cc
alone_over (Accepted info) e = refl
alone_over Finished e = refl
alone_over (Broken why) e = refl

-- what the public text of a template tells
one_value : (name : List ℕ) (template : List Attr) → is_tuple template ≡ true → is_secret name ≡ false → value_in name (tuple_of (public_text template)) ≡ value_of name template
one_value name template valid open_ =
    ap (λ (text : List ℕ). value_in name (tuple_of text)) (text_shown template)
    ∙ ap (value_in name) (printed_read (map hidden template) (hidden_tuple template valid))
    ∙ value_hidden name template open_

started_came : (starting : Bool) (said : Said) (word text : List ℕ) (template : List Attr) (fault : Option StartFault) → few_of text ≡ Some template
    → shown (started (standing_at None (Waiting (starts text)) starting said) word template fault) ≡ carried_by (shown_request (starts text)) (came_to (started (standing_at None (Waiting (starts text)) starting said) word template fault)) (shown_at None (Waiting (starts text)) starting said)
started_came starting said word text template (Some fault) few = refl
started_came starting said word text template None few =
    let s = standing_at None (Waiting (starts text)) true said in
    let b = begin template word in
    let valid = few_tuple (tuple_of text) text refl template few in
    let came = came_to (moved s b a.Ok) in
    let request = Starts (Some (public_text template)) in
    let proto = value_in (codes "proto") (tuple_of (public_text template)) in
    let role = value_in (codes "role") (tuple_of (public_text template)) in
    moved_came request s b a.Ok false (record { kind = began_so b.start; leads = began_next b.start; ends = began_not_alone b.start })
    ∙ sym (ap (λ (o : Option (List Attr)). carried_by (Starts (option_map public_text o)) came (shown_at None (Waiting (starts text)) starting said)) few
    ∙ ap (λ (o : Option ShownEnd). named request (takes None o proto (told_in (codes "proto") None)) (takes None o role (told_in (codes "role") None)) came.ending false came.need (takes None o true starting) said) (came_end (needs b.start b.moves) a.Ok (Some (shown_end (ends b.start b.moves))))
    ∙ ap (λ (p : Option (List ℕ)). named request p role came.ending false came.need true said) (one_value (codes "proto") template valid refl)
    ∙ ap (λ (r : Option (List ℕ)). named request (value_of (codes "proto") template) r came.ending false came.need true said) (one_value (codes "role") template valid refl))

start_came : (starting : Bool) (said : Said) (word text : List ℕ) (o : Option (List Attr)) → few_of text ≡ o
    → shown (start_by (standing_at None (Waiting (starts text)) starting said) word o) ≡ carried_by (shown_request (starts text)) (came_to (start_by (standing_at None (Waiting (starts text)) starting said) word o)) (shown_at None (Waiting (starts text)) starting said)
start_came starting said word text None few = refl
start_came starting said word text (Some template) few = started_came starting said word text template (refuses template) few

-- a message is got, or given
got_came : (b : Begun) (starting : Bool) (said : Said) → needs b.start b.moves ≡ Nothing
    → let s = standing_at (Some b) (Waiting reads) starting said in let answer = move_answer (a.Got (puts b.start b.moves get)) b.key (answers b.start b.moves get) in
    shown (moved s (with_move b get) answer) ≡ carried_by Reads (came_to (moved s (with_move b get) answer)) (shown s)
got_came b starting said none =
    let s = standing_at (Some b) (Waiting reads) starting said in
    let now = with_move b get in
    let answer = move_answer (a.Got (puts b.start b.moves get)) b.key (answers b.start b.moves get) in
    let proto = told_in (codes "proto") (Some b) in
    let role = told_in (codes "role") (Some b) in
    let o = ends b.start b.moves in
    moved_came Reads s now answer (was_alone (Some (ending_of o)) || (gives_digits proto role && is_got (came_to (moved s now answer)).word))
    (record {
      kind = moved_so b.start b.moves get refl none;
      leads = λ template wanted. moved_next b.start b.moves get template refl none wanted;
      ends = word_so (needs now.start now.moves) answer (Some (shown_end (ends now.start now.moves))) (is_alone (ends now.start now.moves)) (is_alone o) (gives_digits proto role)
          (got_alone b.start b.moves (puts b.start b.moves get) b.key none)
          (λ e. none_at_the_end now.start now.moves (alone_over (ends now.start now.moves) e))
          ∙ ap (λ (x : Bool). x || (gives_digits proto role && is_got (came_to (moved s now answer)).word)) (sym (was_so o));
    })

given_came : (b : Begun) (message : List ℕ) (starting : Bool) (said : Said) → needs b.start b.moves ≡ Nothing
    → let s = standing_at (Some b) (Waiting (writes message)) starting said in let answer = move_answer a.Ok b.key (answers b.start b.moves (give message)) in
    shown (moved s (with_move b (give message)) answer) ≡ carried_by Writes (came_to (moved s (with_move b (give message)) answer)) (shown s)
given_came b message starting said none =
    let s = standing_at (Some b) (Waiting (writes message)) starting said in
    let now = with_move b (give message) in
    let answer = move_answer a.Ok b.key (answers b.start b.moves (give message)) in
    let o = ends b.start b.moves in
    moved_came Writes s now answer (was_alone (Some (ending_of o)) || false)
    (record {
      kind = moved_so b.start b.moves (give message) refl none;
      leads = λ template wanted. moved_next b.start b.moves (give message) template refl none wanted;
      ends = given_alone b.start b.moves message none ∙ sym (was_so o) ∙ or_no (was_alone (Some (ending_of o)));
    })

carried_at : (begun : Option Begun) (starting : Bool) (said : Said) (word : List ℕ) (request : RpcRequest) → need_in begun ≡ Nothing
    → shown (carried_out (standing_at begun (Waiting request) starting said) word request) ≡ carried_by (shown_request request) (came_to (carried_out (standing_at begun (Waiting request) starting said) word request)) (shown_at begun (Waiting request) starting said)
carried_at None starting said word (starts text) none = start_came starting said word text (few_of text) refl
carried_at (Some b) starting said word (starts text) none = stays_ended b starting said
carried_at None starting said word reads none = refl
carried_at (Some b) starting said word reads none = got_came b starting said none
carried_at None starting said word (writes message) none = refl
carried_at (Some b) starting said word (writes message) none = given_came b message starting said none
carried_at None starting said word asks_info none = refl
carried_at (Some b) starting said word asks_info none = stays_ended b starting said
carried_at None starting said word asks_attributes none = refl
carried_at (Some b) starting said word asks_attributes none = stays_ended b starting said

pub carried_is_shown : (talk : List calls.Call) (word : List ℕ) (request : RpcRequest) → (standing talk).phase ≡ Waiting request
    → shown (standing (calls.CarriedOut word ∷ talk)) ≡ carried_shown (came_to (carried_out (standing talk) word request)) (shown (standing talk))
carried_is_shown talk word request waits =
    let s = standing talk in
    let is : s ≡ standing_at s.begun (Waiting request) s.starting s.said = ap (λ (ph : Phase). standing_at s.begun ph s.starting s.said) waits in
    ap (λ (x : Standing). shown (then_stands x x.phase (calls.CarriedOut word))) is
    ∙ carried_at s.begun s.starting s.said word request (waits_idle talk request waits).free
    ∙ sym (ap (λ (x : Standing). carried_shown (came_to (carried_out x word request)) (shown x)) is)

-- ---- the authentication server is done with

abbrev heard_by : ShownPhase → ShownResult → Shown → Shown
heard_by AtServer came t = record { proto = t.proto; role = t.role; ending = option_map (λ e. with_end e false) came.ending; phase = Idle; starting = t.starting; said = t.said }
heard_by Idle came t = t
heard_by (Waits request) came t = t
heard_by (Seeks need) came t = t
heard_by (AtConfirm serial need) came t = t
heard_by (AtNeedkey need) came t = t

abbrev pub heard_shown : ShownResult → Shown → Shown
heard_shown came t = heard_by t.phase came t

is_exchange : (need : Need) → IsAsked need → IsExchange need
is_exchange need asked = subst (λ (n : Need). IsExchange n) (sym asked.2) tt

heard_at : (begun : Option Begun) (ph : Phase) (starting : Bool) (said : Said) (bytes : List ℕ) → Wants ph (need_in begun)
    → shown (then_stands (standing_at begun ph starting said) ph (calls.Heard bytes)) ≡ heard_shown (came_to (then_stands (standing_at begun ph starting said) ph (calls.Heard bytes))) (shown_at begun ph starting said)
heard_at None OnServer starting said bytes wants = absurd (is_exchange Nothing wants)
heard_at (Some b) OnServer starting said bytes wants =
    let proto = told_in (codes "proto") (Some b) in
    let role = told_in (codes "role") (Some b) in
    let now = with_move b (heard bytes) in
    let answer = move_answer a.Ok b.key (answers b.start b.moves (heard bytes)) in
    let o = ends now.start now.moves in
    let exchange = is_exchange (needs b.start b.moves) wants in
    moved_shown (standing_at (Some b) OnServer starting said) now answer
    ∙ ap (λ (need : Need). behind proto role (ending_of o) (next_need need (next_in now)) starting said) (heard_needs b.start b.moves bytes exchange)
    ∙ ap (λ (end : Ending). record { proto = proto; role = role; ending = Some end; phase = Idle; starting = starting; said = said }) (ended_so o ∙ ap (with_end (shown_end o)) (heard_not_alone b.start b.moves bytes exchange))
    ∙ sym (ap (λ (e : Option ShownEnd). record { proto = proto; role = role; ending = option_map (λ x. with_end x false) e; phase = Idle; starting = starting; said = said }) (came_end (needs now.start now.moves) answer (Some (shown_end o))))
heard_at begun Resting starting said bytes wants = refl
heard_at begun (Waiting request) starting said bytes wants = refl
heard_at begun Seeking starting said bytes wants = refl
heard_at begun (OnConfirm serial) starting said bytes wants = refl
heard_at begun OnNeedkey starting said bytes wants = refl
heard_at begun (Kept answer) starting said bytes wants = refl

pub heard_is_shown : (talk : List calls.Call) (bytes : List ℕ) → shown (standing (calls.Heard bytes ∷ talk)) ≡ heard_shown (came_to (standing (calls.Heard bytes ∷ talk))) (shown (standing talk))
heard_is_shown talk bytes = heard_at (standing talk).begun (standing talk).phase (standing talk).starting (standing talk).said bytes (waits_with_question talk)

-- it isn't reached, or there is no memory for its answer
abbrev failed_by : ShownPhase → Cause → Shown → Shown
failed_by AtServer why t = record { proto = t.proto; role = t.role; ending = Some (EndsBroken why); phase = Idle; starting = t.starting; said = t.said }
failed_by Idle why t = t
failed_by (Waits request) why t = t
failed_by (Seeks need) why t = t
failed_by (AtConfirm serial need) why t = t
failed_by (AtNeedkey need) why t = t

abbrev pub failed_shown : Cause → Shown → Shown
failed_shown why t = failed_by t.phase why t

fails_at : (b : Begun) (starting : Bool) (said : Said) (move : Move) (why : Cause) → needs b.start (move ∷ b.moves) ≡ Nothing → ends b.start (move ∷ b.moves) ≡ Broken why
    → shown (made (standing_at (Some b) OnServer starting said) move (Some b)) ≡ failed_shown why (shown_at (Some b) OnServer starting said)
fails_at b starting said move why none broken =
    let proto = told_in (codes "proto") (Some b) in
    let role = told_in (codes "role") (Some b) in
    moved_shown (standing_at (Some b) OnServer starting said) (with_move b move) (move_answer a.Ok b.key (answers b.start b.moves move))
    ∙ ap (λ (o : Outcome). behind proto role (ending_of o) (led_after b.start (move ∷ b.moves)) starting said) broken
    ∙ ap (λ (need : Need). behind proto role (EndsBroken why) (next_need need (next_in (with_move b move))) starting said) none

unheard_at : (begun : Option Begun) (ph : Phase) (starting : Bool) (said : Said) → Wants ph (need_in begun) → shown (then_stands (standing_at begun ph starting said) ph calls.Unheard) ≡ failed_shown cause.NoServer (shown_at begun ph starting said)
unheard_at None OnServer starting said wants = absurd (is_exchange Nothing wants)
unheard_at (Some b) OnServer starting said wants =
    let exchange = is_exchange (needs b.start b.moves) wants in
    fails_at b starting said unheard cause.NoServer (unheard_needs b.start b.moves exchange) (unheard_breaks b.start b.moves exchange)
unheard_at begun Resting starting said wants = refl
unheard_at begun (Waiting request) starting said wants = refl
unheard_at begun Seeking starting said wants = refl
unheard_at begun (OnConfirm serial) starting said wants = refl
unheard_at begun OnNeedkey starting said wants = refl
unheard_at begun (Kept answer) starting said wants = refl

roomless_at : (begun : Option Begun) (ph : Phase) (starting : Bool) (said : Said) → Wants ph (need_in begun) → shown (then_stands (standing_at begun ph starting said) ph calls.Roomless) ≡ failed_shown cause.NoRoom (shown_at begun ph starting said)
roomless_at None OnServer starting said wants = absurd (is_exchange Nothing wants)
roomless_at (Some b) OnServer starting said wants =
    let exchange = is_exchange (needs b.start b.moves) wants in
    fails_at b starting said roomless cause.NoRoom (roomless_needs b.start b.moves exchange) (roomless_breaks b.start b.moves exchange)
roomless_at begun Resting starting said wants = refl
roomless_at begun (Waiting request) starting said wants = refl
roomless_at begun Seeking starting said wants = refl
roomless_at begun (OnConfirm serial) starting said wants = refl
roomless_at begun OnNeedkey starting said wants = refl
roomless_at begun (Kept answer) starting said wants = refl

pub unheard_is_shown : (talk : List calls.Call) → shown (standing (calls.Unheard ∷ talk)) ≡ failed_shown cause.NoServer (shown (standing talk))
unheard_is_shown talk = unheard_at (standing talk).begun (standing talk).phase (standing talk).starting (standing talk).said (waits_with_question talk)

pub roomless_is_shown : (talk : List calls.Call) → shown (standing (calls.Roomless ∷ talk)) ≡ failed_shown cause.NoRoom (shown (standing talk))
roomless_is_shown talk = roomless_at (standing talk).begun (standing talk).phase (standing talk).starting (standing talk).said (waits_with_question talk)

-- ---- its user answers, or can't

abbrev shut_by : ShownPhase → Shown → Shown
shut_by (AtConfirm serial need) t = refused_shown t
shut_by (AtNeedkey need) t = refused_shown t
shut_by Idle t = t
shut_by (Waits request) t = t
shut_by (Seeks need) t = t
shut_by AtServer t = t

abbrev pub shut_shown : Shown → Shown
shut_shown t = shut_by t.phase t

refused_at : (begun : Option Begun) (ph : Phase) (starting : Bool) (said : Said) (answer : RpcAnswer) → is_sought (need_in begun) ≡ true → shown (refused (standing_at begun ph starting said) answer) ≡ refused_shown (shown_at begun ph starting said)
refused_at None ph starting said answer sought = absurd cc
refused_at (Some b) ph true said answer sought = refl
refused_at (Some b) ph false said answer sought =
    ap (λ (o : Outcome). record { proto = told_in (codes "proto") (Some b); role = told_in (codes "role") (Some b); ending = Some (ending_of o); phase = Idle; starting = false; said = said }) (undone_runs b.start b.moves sought)

shut_at : (begun : Option Begun) (ph : Phase) (starting : Bool) (said : Said) → Wants ph (need_in begun) → shown (then_stands (standing_at begun ph starting said) ph calls.Shut) ≡ shut_shown (shown_at begun ph starting said)
shut_at begun (OnConfirm serial) starting said wants = refused_at begun (OnConfirm serial) starting said a.Denied wants
shut_at begun OnNeedkey starting said wants = refused_at begun OnNeedkey starting said (needs_key (standing_at begun OnNeedkey starting said)) wants
shut_at begun Resting starting said wants = refl
shut_at begun (Waiting request) starting said wants = refl
shut_at begun Seeking starting said wants = refl
shut_at begun OnServer starting said wants = refl
shut_at begun (Kept answer) starting said wants = refl

pub shut_is_shown : (talk : List calls.Call) → shown (standing (calls.Shut ∷ talk)) ≡ shut_shown (shown (standing talk))
shut_is_shown talk = shut_at (standing talk).begun (standing talk).phase (standing talk).starting (standing talk).said (waits_with_question talk)

abbrev consented_by : ShownPhase → Bool → Shown → Shown
consented_by (AtConfirm serial need) agrees t = in_shown t (Seeks need) (says_of serial agrees t.said)
consented_by Idle agrees t = t
consented_by (Waits request) agrees t = t
consented_by (Seeks need) agrees t = t
consented_by (AtNeedkey need) agrees t = t
consented_by AtServer agrees t = t

abbrev pub consented_shown : Bool → Shown → Shown
consented_shown agrees t = consented_by t.phase agrees t

consented_at : (begun : Option Begun) (ph : Phase) (starting : Bool) (said : Said) (agrees : Bool) → shown (then_stands (standing_at begun ph starting said) ph (calls.Consented agrees)) ≡ consented_shown agrees (shown_at begun ph starting said)
consented_at begun (OnConfirm serial) starting said agrees = refl
consented_at begun OnNeedkey starting said agrees = refl
consented_at begun Resting starting said agrees = refl
consented_at begun (Waiting request) starting said agrees = refl
consented_at begun Seeking starting said agrees = refl
consented_at begun OnServer starting said agrees = refl
consented_at begun (Kept answer) starting said agrees = refl

pub consented_is_shown : (talk : List calls.Call) (agrees : Bool) → shown (standing (calls.Consented agrees ∷ talk)) ≡ consented_shown agrees (shown (standing talk))
consented_is_shown talk agrees = consented_at (standing talk).begun (standing talk).phase (standing talk).starting (standing talk).said agrees

abbrev told_by : ShownPhase → Shown → Shown
told_by (AtNeedkey need) t = in_shown t (Seeks need) t.said
told_by (AtConfirm serial need) t = t
told_by Idle t = t
told_by (Waits request) t = t
told_by (Seeks need) t = t
told_by AtServer t = t

abbrev pub key_told_shown : Shown → Shown
key_told_shown t = told_by t.phase t

key_told_at : (begun : Option Begun) (ph : Phase) (starting : Bool) (said : Said) → shown (then_stands (standing_at begun ph starting said) ph calls.KeyTold) ≡ key_told_shown (shown_at begun ph starting said)
key_told_at begun (OnConfirm serial) starting said = refl
key_told_at begun OnNeedkey starting said = refl
key_told_at begun Resting starting said = refl
key_told_at begun (Waiting request) starting said = refl
key_told_at begun Seeking starting said = refl
key_told_at begun OnServer starting said = refl
key_told_at begun (Kept answer) starting said = refl

pub key_told_is_shown : (talk : List calls.Call) → shown (standing (calls.KeyTold ∷ talk)) ≡ key_told_shown (shown (standing talk))
key_told_is_shown talk = key_told_at (standing talk).begun (standing talk).phase (standing talk).starting (standing talk).said

-- ---- a request is written, and an answer read

took_at : (begun : Option Begun) (ph : Phase) (starting : Bool) (said : Said) → shown (then_stands (standing_at begun ph starting said) ph calls.Took) ≡ shown_at begun ph starting said
took_at begun (OnConfirm serial) starting said = refl
took_at begun OnNeedkey starting said = refl
took_at begun Resting starting said = refl
took_at begun (Waiting request) starting said = refl
took_at begun Seeking starting said = refl
took_at begun OnServer starting said = refl
took_at begun (Kept answer) starting said = refl

pub took_is_shown : (talk : List calls.Call) → shown (standing (calls.Took ∷ talk)) ≡ shown (standing talk)
took_is_shown talk = took_at (standing talk).begun (standing talk).phase (standing talk).starting (standing talk).said

abbrev pub stored_shown : ShownRequest → Shown → Shown
stored_shown request t = record { proto = t.proto; role = t.role; ending = t.ending; phase = Waits request; starting = false; said = nothing_said }

pub stored_is_shown : (talk : List calls.Call) (request : RpcRequest) → (standing talk).phase ≡ Resting → shown (standing (calls.Stored request ∷ talk)) ≡ stored_shown (shown_request request) (shown (standing talk))
stored_is_shown talk request rests = ap (λ (ph : Phase). shown (then_stands (standing talk) ph (calls.Stored request))) rests

-- ---- what is searched for

abbrev role_of : Option (List ℕ) → List ℕ
role_of o = elim o [ None ↦ [] | Some role ↦ role ]

abbrev pub search_by : NextNeed → Option (List ℕ) → Said → Asking → KeyList → ShownFound
search_by (KeyNeed template next) role said asking list = shown_found (found_by template (role_of role) said asking list)
search_by (OffersNeed template) role said asking list = HasOffers (offered_by template (role_of role) list)
search_by (PickNeed templates) role said asking list = HasPick
search_by ServerNeed role said asking list = FindsNone
search_by NoNeed role said asking list = FindsNone

search_shown : (need : Need) (next : Next) (role : Option (List ℕ)) (said : Said) (asking : Asking) (list : KeyList) → is_open_need need ≡ true → shown_found (found_for need (role_of role) said asking list) ≡ search_by (next_need need next) role said asking (hidden_list list)
search_shown (Key template) next role said asking list open_ = sym (found_hidden template (role_of role) said asking list open_)
search_shown (Offers template) next role said asking list open_ = ap HasOffers (sym (offered_hidden template (role_of role) list open_))
search_shown (Pick templates) next role said asking list open_ = refl
search_shown (Exchange request shape) next role said asking list open_ = refl
search_shown Nothing next role said asking list open_ = refl

pub search_is_shown : (s : Standing) (asking : Asking) (list : KeyList) → shown_found (finds s asking list) ≡ search_by (led_of s.begun) (told_in (codes "role") s.begun) s.said asking (hidden_list list)
unfolding finds
search_is_shown s asking list = by_begun s.begun
  where
    by_begun : (begun : Option Begun) → shown_found (found_for (need_in begun) (role_name begun) s.said asking list) ≡ search_by (led_of begun) (told_in (codes "role") begun) s.said asking (hidden_list list)
    by_begun None = refl
    by_begun (Some b) = search_shown (needs b.start b.moves) (next_in b) (value_of (codes "role") b.start.template) s.said asking list (need_is_open b.start b.moves)

abbrev pub template_shown : NextNeed → List Attr
template_shown (KeyNeed template next) = template
template_shown (OffersNeed template) = []
template_shown (PickNeed templates) = []
template_shown ServerNeed = []
template_shown NoNeed = []

template_by : (need : Need) (next : Next) → template_in need ≡ template_shown (next_need need next)
template_by (Key template) next = refl
template_by (Offers template) next = refl
template_by (Pick templates) next = refl
template_by (Exchange request shape) next = refl
template_by Nothing next = refl

pub template_is_shown : (begun : Option Begun) → template_of begun ≡ template_shown (led_of begun)
template_is_shown None = refl
template_is_shown (Some b) = template_by (needs b.start b.moves) (next_in b)

-- ---- lines of the log

abbrev asks_user : ShownPhase → Bool
asks_user (Seeks need) = true
asks_user (AtConfirm serial need) = true
asks_user (AtNeedkey need) = true
asks_user Idle = false
asks_user (Waits request) = false
asks_user AtServer = false

abbrev outcome_shown : Bool → ShownPhase → Option Ending → Option Ending
outcome_shown starting phase end = cond (starting && asks_user phase) None end

end_mapped : (begun : Option Begun) → option_map ending_of (option_map (λ b. ends b.start b.moves) begun) ≡ endings begun
end_mapped None = refl
end_mapped (Some b) = refl

outcome_at : (begun : Option Begun) (ph : Phase) (starting : Bool) (said : Said) → option_map ending_of (outcome_of (standing_at begun ph starting said)) ≡ outcome_shown starting (shown_phase ph (led_of begun)) (endings begun)
outcome_at begun ph false said = end_mapped begun
outcome_at begun Resting true said = end_mapped begun
outcome_at begun (Waiting request) true said = end_mapped begun
outcome_at begun Seeking true said = refl
outcome_at begun (OnConfirm serial) true said = refl
outcome_at begun OnNeedkey true said = refl
outcome_at begun OnServer true said = end_mapped begun
outcome_at begun (Kept answer) true said = end_mapped begun

abbrev outcome_in : Shown → Option Ending
outcome_in t = outcome_shown t.starting t.phase t.ending

abbrev role_shown : Option (List ℕ) → Option (List ℕ) → List ℕ
role_shown proto role = codes " proto=" ++ (value_text (text_or_none proto) ++ (codes " role=" ++ value_text (text_or_none role)))

abbrev start_shown : ℕ → Option (List ℕ) → Option (List ℕ) → List ℕ
start_shown conv proto role = decimal conv ++ (codes " start" ++ (role_shown proto role ++ codes "\n"))

abbrev done_shown : ℕ → Option (List ℕ) → Option (List ℕ) → List ℕ
done_shown conv proto role = decimal conv ++ (codes " done" ++ role_shown proto role)

abbrev end_shown : ℕ → Option (List ℕ) → Option (List ℕ) → Option Ending → List (List ℕ)
end_shown conv proto role None = []
end_shown conv proto role (Some EndsNot) = []
end_shown conv proto role (Some (EndsBy user)) = (done_shown conv proto role ++ (codes " user=" ++ (value_text user ++ codes "\n"))) ∷ []
end_shown conv proto role (Some EndsAlone) = (done_shown conv proto role ++ codes "\n") ∷ []
end_shown conv proto role (Some (EndsBroken why)) = error_line conv why ∷ []

abbrev is_end_shown : Option Ending → Bool
is_end_shown None = false
is_end_shown (Some EndsNot) = false
is_end_shown (Some (EndsBy user)) = true
is_end_shown (Some EndsAlone) = true
is_end_shown (Some (EndsBroken why)) = true

some_mapped : (o : Option Outcome) → is_some (option_map ending_of o) ≡ is_some o
some_mapped None = refl
some_mapped (Some outcome) = refl

is_end_mapped : (o : Option Outcome) → is_end_shown (option_map ending_of o) ≡ is_end o
is_end_mapped None = refl
is_end_mapped (Some Running) = refl
is_end_mapped (Some (Accepted info)) = refl
is_end_mapped (Some Finished) = refl
is_end_mapped (Some (Broken why)) = refl

line_mapped : (conv : ℕ) (template : List Attr) (o : Option Outcome) → end_shown conv (value_of (codes "proto") template) (value_of (codes "role") template) (option_map ending_of o) ≡ end_line conv template o
line_mapped conv template None = refl
line_mapped conv template (Some Running) = refl
line_mapped conv template (Some (Accepted info)) = refl
line_mapped conv template (Some Finished) = refl
line_mapped conv template (Some (Broken why)) = refl

abbrev parts_shown : Bool → ℕ → Option (List ℕ) → Option (List ℕ) → Option Ending → Option Ending → List (List ℕ)
parts_shown debug conv proto role before now = cond (debug && (not (is_some before) && is_some now)) (start_shown conv proto role ∷ []) [] ++ cond (is_end_shown before) [] (end_shown conv proto role now)

parts_mapped : (debug : Bool) (conv : ℕ) (template : List Attr) (o p : Option Outcome)
    → parts_shown debug conv (value_of (codes "proto") template) (value_of (codes "role") template) (option_map ending_of o) (option_map ending_of p) ≡ start_part debug conv template o p ++ end_part conv template o p
parts_mapped debug conv template o p = rw (some_mapped o, some_mapped p, is_end_mapped o, line_mapped conv template p) refl

abbrev pub lines_shown : Bool → ℕ → Shown → Shown → List (List ℕ)
lines_shown debug conv before now = parts_shown debug conv now.proto now.role (outcome_in before) (outcome_in now)

pub lines_are_shown : (debug : Bool) (conv : ℕ) (before now : Standing) → log_lines debug conv before now ≡ lines_shown debug conv (shown before) (shown now)
lines_are_shown debug conv before now =
    sym (parts_mapped debug conv (start_template now.begun) (outcome_of before) (outcome_of now))
    ∙ ap (λ (o : Option Ending). parts_shown debug conv (told_in (codes "proto") now.begun) (told_in (codes "role") now.begun) o (option_map ending_of (outcome_of now))) (outcome_at before.begun before.phase before.starting before.said)
    ∙ ap (λ (o : Option Ending). parts_shown debug conv (told_in (codes "proto") now.begun) (told_in (codes "role") now.begun) (outcome_in (shown before)) o) (outcome_at now.begun now.phase now.starting now.said)
