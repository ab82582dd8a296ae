-- What a program that answers for its user has entered: its opening, and then request by request and reply by reply.
use Rattle.std.proofs.Common.{◌≡◌, ◌<◌, ◌≤◌, ℕ, zero, suc, List, [], ◌∷◌, ◌++◌, length, map, take, Bool, true, false, ltb, not, ◌&&◌, ◌||◌, if◌then◌else◌, Option, Some, None, refl, sym, ap, subst, ◌∙◌, append_assoc, append-nil, true≢false, eqb-true, arith, inl, inr}
use Rattle.std.proofs.lemmas.Bool.{ltb-false}
use Rattle.std.proofs.lemmas.List.{length-map, take_at}
use Rattle.std.specs.Prelude.{Result, Ok, Err, IfOk, reverse}
use Rattle.wire_base.specs.declared.bytes.NoMemory.{NoMemory}
use Rattle.wire_base.specs.Readers.{number, value_of}
use Rattle.std.specs.Int.{w8}
use Rattle.nine.specs.declared.message.TMsg.{TMsg}
use Rattle.nine.specs.Messages.{t_frame}
use Rattle.side_files.specs.declared.line.PromptKind.{PromptKind}
use Rattle.side_files.specs.declared.line.PromptKind.TheVariants.{Confirm, Needkey}
use Rattle.side_files.specs.declared.question.Question.{Question}
use Rattle.prompters.specs.Manners.{Manner}
use Rattle.prompters.specs.Chains.{after_answer, word_of}
use Rattle.prompters.specs.declared.prompter.Say.{Say}
use Rattle.turn_lock.specs.Fronts.{among, events}
use Rattle.turn_lock.specs.Seats.{front, numbers}
use Rattle.agent_history.specs.declared.event.Event.{Event}
use Rattle.agent_history.specs.declared.event.Event.TheVariants.{Hang, Request, Take}
use Rattle.agent_history.specs.declared.event.StepAnswer.{StepAnswer}
use Rattle.agent_history.specs.declared.event.StepAnswer.TheVariants as a
use Rattle.agent_history.specs.Histories.{History, answer, has_stopped, is_reply}
use Rattle.agent_hub.specs.declared.exchange.Exchanged.{Exchanged}
use Rattle.agent_hub.specs.declared.exchange.TakesEnd.{TakesEnd}
use Rattle.agent_hub.specs.declared.exchange.TakesEnd.TheVariants.{NoneLeft, Stopped, Left}
use Rattle.agent_hub.specs.Events.{Answers}
use Rattle.agent_hub.specs.Submits.{HubSeat, IsSubmitted}
use Rattle.agent_hub.specs.Entries.{Adds, Entered, entered_by, entry, events_in, in_turn}
use Rattle.agent_hub.specs.Requesting.{Drawn, frames_of, requests, words_of}
use Rattle.agent_hub.specs.Exchanging.{IsExchanged, TakesEndSo}
use Rattle.agent_hub.proofs.EntryLemmas.{adds_one, adds_still, before_it}
use Rattle.agent_hub.proofs.FrontFacts.{entered_behind, entered_made}
use Rattle.prompters.specs.Requests.{answer_text, opening, read_of, write_of}
use Rattle.prompters.specs.Replies.{are_open, file_read, is_number, is_refusal, meets_use, question_read, refuses_by, too_small_text}
use Rattle.prompters.specs.Wanted.{wanted}
use Rattle.agent_serving.specs.declared.prompts.PromptsEnd.{PromptsEnd}
use Rattle.agent_serving.specs.declared.prompts.PromptsEnd.TheVariants.{Idle, InUse, TooLong, NoQuestion, Gone}
use Rattle.agent_serving.specs.declared.prompts.PromptsEnd.TheVariants as e
use Rattle.agent_serving.specs.Prompting.{Asked, Begins, Hears, MadeAll, Makes, Opening, PromptsSo, Speaks, SpeaksOn, Stops, Takes, TakesNone, TakesOne, asks, is_in_use, is_stopped, is_too_long, opened_by, taken_of, zeros}

-- ---- the opening

-- requests by their frames and words, the oldest first
abbrev put : ℕ → List Event → List (List ℕ) → List (List ℕ) → List Event
put conn done [] words = done
put conn done (frame ∷ frames) [] = done
put conn done (frame ∷ frames) (word ∷ words) = put conn (Request conn frame word ∷ done) frames words

put_more : (conn : ℕ) (drawn : List Drawn) (done : List Event) (frames words : List (List ℕ)) → put conn done (frames_of drawn ++ frames) (words_of drawn ++ words) ≡ put conn (requests conn drawn ++ done) frames words
put_more conn [] done frames words = refl
put_more conn (d ∷ older) done frames words =
    (λ i. put conn done (append_assoc (frames_of older) (d.frame ∷ []) frames i) (append_assoc (words_of older) (d.word ∷ []) words i)) ∙ put_more conn older done (d.frame ∷ frames) (d.word ∷ words)

put_all : (conn : ℕ) (drawn : List Drawn) → put conn [] (frames_of drawn) (words_of drawn) ≡ requests conn drawn
put_all conn drawn = (λ i. put conn [] (sym (append-nil (frames_of drawn)) i) (sym (append-nil (words_of drawn)) i)) ∙ put_more conn drawn [] [] [] ∙ append-nil (requests conn drawn)

abbrev pub six : List (List ℕ)
six = zeros ∷ zeros ∷ zeros ∷ zeros ∷ zeros ∷ zeros ∷ []

asked_first : (conn n : ℕ) → n ≤ 6 → put conn [] (take n (map t_frame opening)) (take n six) ≡ reverse (map (asks conn) (take n opening))
asked_first conn zero le = refl
asked_first conn (suc zero) le = refl
asked_first conn (suc (suc zero)) le = refl
asked_first conn (suc (suc (suc zero))) le = refl
asked_first conn (suc (suc (suc (suc zero)))) le = refl
asked_first conn (suc (suc (suc (suc (suc zero))))) le = refl
asked_first conn (suc (suc (suc (suc (suc (suc zero)))))) le = refl
asked_first conn (suc (suc (suc (suc (suc (suc (suc n))))))) le = absurd (omega (arith, le))

-- two lists of one length that stand in front of the same are one
same_front : {A : Type 0} (xs ys zs : List A) → length xs ≡ length ys → xs ++ zs ≡ ys ++ zs → xs ≡ ys
same_front {A} xs ys zs long same = sym (take_at xs zs (length xs) refl) ∙ ap (take (length xs)) same ∙ take_at ys zs (length xs) (sym long)

in_turn_long : (H : History) (done : List Event) → length (in_turn H done) ≡ length done
in_turn_long H [] = refl
in_turn_long H (event ∷ done) = ap suc (in_turn_long H done)

or_parts : (b c : Bool) → (b || not c) ≡ false → (b ≡ false) × (c ≡ true)
or_parts true c is = absurd (true≢false is)
or_parts false true is = (refl, refl)
or_parts false false is = absurd (true≢false is)

all_entered : (k : ℕ) → k ≤ 6 → ltb k 6 ≡ false → k ≡ 6
all_entered k most least = omega (arith, most, ltb-false k 6 least)

stopped_by : (conn : ℕ) (end : TakesEnd) (H : History) → is_stopped end ≡ true → TakesEndSo end conn H → has_stopped H ≡ true
stopped_by conn NoneLeft H is so = absurd (true≢false (sym is))
stopped_by conn Stopped H is so = so
stopped_by conn Left H is so = absurd (true≢false (sym is))

module _ (conn : ℕ) (chain : List Manner) (before after : HubSeat) (came : Exchanged) (heard : List ℕ) (n : ℕ) (is_mine : among (numbers before) n ≡ true)
    (x : IsExchanged conn (map t_frame opening) six came [] heard before after) where
  abbrev behind : History
  behind = events (x.puts.others ++ front before)

  one_turn : x.mine ≡ in_turn behind (events_in x.mine)
  one_turn =
      let ns = numbers before in
      let done = events_in x.mine in
      let own : entered_by ns (front after) ≡ in_turn behind done ++ entered_by ns (front before) = ap (entered_by ns) x.puts.goes_on ∙ entered_made ns done (x.puts.others ++ front before) n is_mine
      ∙ ap (λ (l : List Entered). in_turn behind done ++ l) (entered_behind ns x.puts.others (front before) x.puts.of_others) in
      same_front x.mine (in_turn behind done) (entered_by ns (front before)) (sym (in_turn_long behind done ∙ length-map x.mine (λ (e : Entered). e.event))) (sym x.puts.added.own_entries ∙ own)

  an_opening : Opening conn came.entered heard x.mine
  an_opening = record {
    before = behind;
    done = events_in x.mine;
    one_turn = one_turn;
    asked = x.asks ∙ sym (put_all conn x.drawn) ∙ (λ i. put conn [] (x.frames_are i) (x.words_are i)) ∙ asked_first conn came.entered x.there;
    gave = x.puts.out;
  }

  opened_none : (end : PromptsEnd) → MadeAll conn chain chain before after end came.entered heard [] [] [] → is_in_use end ≡ meets_use heard → is_too_long end ≡ false → Stops conn chain chain before after end
  opened_none end all used long =
      record { entered = came.entered; heard = heard; opened = x.mine; opens = an_opening; talk = []; added = x.puts.added; made = []; replies = []; talks = Begins; begins = inr refl; all = all; in_use = used; too_long = long }

  opened_all : meets_use heard ≡ false → (came.entered ≡ 6) × (are_open heard ≡ true) → Speaks conn chain chain before after (read_of Needkey ∷ read_of Confirm ∷ [])
  opened_all free all = record {
    opened = x.mine;
    begun = record { heard = heard; opens = subst (λ (k : ℕ). Opening conn k heard x.mine) all.0 an_opening; both = all.1; free = free };
    talk = [];
    added = x.puts.added;
    made = [];
    replies = [];
    talks = Begins;
    wants = refl;
    asked = refl;
    goes = refl;
    fits = refl;
  }

  by_tests : (used stopped short : Bool) → meets_use heard ≡ used → is_stopped came.end ≡ stopped → (ltb came.entered 6 || not (are_open heard)) ≡ short
      → SpeaksOn conn chain chain before after (if used then Err InUse else if stopped then Err Gone else if short then Err e.NoMemory else Ok tt) (read_of Needkey ∷ read_of Confirm ∷ [])
  by_tests true stopped short u s f = opened_none InUse (record { none = refl; same = refl }) (sym u) refl
  by_tests false true short u s f = opened_none Gone (inr (stopped_by conn came.end (events (front after)) s x.ends), inr (record { none = refl; same = refl })) (sym u) refl
  by_tests false false true u s f = opened_none e.NoMemory tt (sym u) refl
  by_tests false false false u s f = let parts = or_parts (ltb came.entered 6) (are_open heard) f in opened_all u (all_entered came.entered x.there parts.0, parts.1)

  pub opened_so : SpeaksOn conn chain chain before after (opened_by came heard) (read_of Needkey ∷ read_of Confirm ∷ [])
  opened_so = by_tests (meets_use heard) (is_stopped came.end) (ltb came.entered 6 || not (are_open heard)) refl refl refl

-- ---- the talk

module _ (conn : ℕ) (chain : List Manner) where
  module _ (now : List Manner) (first before after : HubSeat) where
    -- a request was made
    pub made_one : (frame : List ℕ) (answered : StepAnswer) (old new : List ℕ) (still : List TMsg) (m : TMsg) (n : ℕ) → among (numbers before) n ≡ true → frame ≡ t_frame m
        → IsSubmitted (Request conn frame zeros) (Ok answered) old new before after → Speaks conn chain now first before (still ++ m ∷ []) → Speaks conn chain now first after still
    made_one frame answered old new still m n is_mine is s d =
        let t : IsSubmitted (asks conn m) (Ok answered) old new before after = subst (λ (f : List ℕ). IsSubmitted (Request conn f zeros) (Ok answered) old new before after) is s in
        let h = before_it (asks conn m) (Ok answered) old new before after t in
        let wants : wanted chain d.replies ≡ still ++ m ∷ d.made = d.wants ∙ append_assoc still (m ∷ []) d.made in
        record {
          opened = d.opened;
          begun = d.begun;
          talk = entry h (asks conn m) ∷ d.talk;
          added = adds_one (asks conn m) answered old new first before after (d.talk ++ d.opened) n is_mine d.added t;
          made = m ∷ d.made;
          replies = d.replies;
          talks = Makes d.talk d.made still d.replies m h d.talks wants;
          wants = wants;
          asked = d.asked;
          goes = d.goes;
          fits = d.fits;
        }

    -- memory was short for it
    pub made_none : (frame : List ℕ) (x : NoMemory) (old new : List ℕ) (still : List TMsg) → IsSubmitted (Request conn frame zeros) (Err x) old new before after → Speaks conn chain now first before still → Stops conn chain now first after e.NoMemory
    made_none frame x old new still s d = record {
      entered = 6;
      heard = d.begun.heard;
      opened = d.opened;
      opens = d.begun.opens;
      talk = d.talk;
      added = adds_still (Request conn frame zeros) x old new first before after (d.talk ++ d.opened) d.added s;
      made = d.made;
      replies = d.replies;
      talks = d.talks;
      begins = inl d.begun.both;
      all = tt;
      in_use = sym d.begun.free;
      too_long = sym d.fits;
    }

    both : (h : History) (answered : StepAnswer) (old new : List ℕ) → old ≡ [] → Answers h (Take conn) answered old new → answer h (Take conn) ≡ (answered, new)
    both h answered old new none s = λ i. (sym s.answer i, sym (s.out ∙ ap (λ (l : List ℕ). l ++ (answer h (Take conn)).1) none) i)

    heard_none : (answered : StepAnswer) (old new : List ℕ) (n : ℕ) → among (numbers before) n ≡ true → is_reply answered ≡ false → IsSubmitted (Take conn) (Ok answered) old new before after → Speaks conn chain now first before [] → Speaks conn chain now first after []
    heard_none answered old new n is_mine none s d = let h = before_it (Take conn) (Ok answered) old new before after s in record {
      opened = d.opened;
      begun = d.begun;
      talk = entry h (Take conn) ∷ d.talk;
      added = adds_one (Take conn) answered old new first before after (d.talk ++ d.opened) n is_mine d.added s;
      made = d.made;
      replies = d.replies;
      talks = TakesNone d.talk d.made d.replies h d.talks (ap is_reply (sym s.answered.answer) ∙ none);
      wants = d.wants;
      asked = d.asked;
      goes = d.goes;
      fits = d.fits;
    }

    -- a take was answered
    pub took_one : (reply : Result StepAnswer NoMemory) (old new : List ℕ) (n : ℕ) → among (numbers before) n ≡ true → old ≡ [] → IsSubmitted (Take conn) reply old new before after → Speaks conn chain now first before []
        → TakesOne conn chain now first after (taken_of reply) new
    took_one (Ok a.Reply) old new n is_mine none s d = let h = before_it (Take conn) (Ok a.Reply) old new before after s in record {
      opened = d.opened;
      begun = d.begun;
      talk = entry h (Take conn) ∷ d.talk;
      added = adds_one (Take conn) a.Reply old new first before after (d.talk ++ d.opened) n is_mine d.added s;
      made = d.made;
      replies = d.replies;
      talks = Takes d.talk d.made d.replies new h d.talks (both h a.Reply old new none s.answered);
      wants = d.wants;
      asked = d.asked;
      goes = d.goes;
      fits = d.fits;
    }
    took_one (Ok a.Gone) old new n is_mine none s d = let h = before_it (Take conn) (Ok a.Gone) old new before after s in record {
      entered = 6;
      heard = d.begun.heard;
      opened = d.opened;
      opens = d.begun.opens;
      talk = entry h (Take conn) ∷ d.talk;
      added = adds_one (Take conn) a.Gone old new first before after (d.talk ++ d.opened) n is_mine d.added s;
      made = d.made;
      replies = d.replies;
      talks = TakesNone d.talk d.made d.replies h d.talks (ap is_reply (sym s.answered.answer));
      begins = inl d.begun.both;
      all = (inl (sym s.answered.answer), inl (record { whole = refl; both_open = d.begun.both; all = sym d.wants; asked = sym d.asked }));
      in_use = sym d.begun.free;
      too_long = sym d.fits;
    }
    took_one (Ok a.Done) old new n is_mine none s d = heard_none a.Done old new n is_mine refl s d
    took_one (Ok a.NoReply) old new n is_mine none s d = heard_none a.NoReply old new n is_mine refl s d
    took_one (Ok (a.Ask call conv shape)) old new n is_mine none s d = heard_none (a.Ask call conv shape) old new n is_mine refl s d
    took_one (Ok (a.DropCall conv)) old new n is_mine none s d = heard_none (a.DropCall conv) old new n is_mine refl s d
    took_one (Ok a.NoAsk) old new n is_mine none s d = heard_none a.NoAsk old new n is_mine refl s d
    took_one (Ok a.Stopped) old new n is_mine none s d = heard_none a.Stopped old new n is_mine refl s d
    took_one (Err x) old new n is_mine none s d = record {
      entered = 6;
      heard = d.begun.heard;
      opened = d.opened;
      opens = d.begun.opens;
      talk = d.talk;
      added = adds_still (Take conn) x old new first before after (d.talk ++ d.opened) d.added s;
      made = d.made;
      replies = d.replies;
      talks = d.talks;
      begins = inl d.begun.both;
      all = tt;
      in_use = sym d.begun.free;
      too_long = sym d.fits;
    }

  module _ (now : List Manner) (first seat : HubSeat) where
    -- there is no memory for a frame
    pub made_no_frame : (still : List TMsg) → Speaks conn chain now first seat still → Stops conn chain now first seat e.NoMemory
    made_no_frame still d = record {
      entered = 6;
      heard = d.begun.heard;
      opened = d.opened;
      opens = d.begun.opens;
      talk = d.talk;
      added = d.added;
      made = d.made;
      replies = d.replies;
      talks = d.talks;
      begins = inl d.begun.both;
      all = tt;
      in_use = sym d.begun.free;
      too_long = sym d.fits;
    }

    -- ---- the reply to a read

    module _ (reply : List ℕ) (d : Hears conn chain now first seat reply) where
      -- it is that to a write
      pub of_write : file_read reply ≡ None → Speaks conn chain now first seat []
      of_write none = record {
        opened = d.opened;
        begun = d.begun;
        talk = d.talk;
        added = d.added;
        made = d.made;
        replies = reply ∷ d.replies;
        talks = d.talks;
        wants = rw (d.goes, none) d.wants;
        asked = rw (d.goes, none) d.asked;
        goes = rw (d.goes, none) refl;
        fits = rw (d.fits, none) refl;
      }

      kinds_differ : (kind : Option ℕ) → is_number 107 kind ≡ true → is_number 117 kind ≡ false
      kinds_differ None is = absurd (true≢false (sym is))
      kinds_differ (Some n) is = rw (eqb-true n 107 is) refl

      no_question : refuses_by too_small_text reply ≡ true → question_read reply ≡ None
      no_question is = rw (kinds_differ (value_of (number w8 reply 4)) (and_left (is_refusal reply) _ is)) refl
        where
          and_left : (b c : Bool) → (b && c) ≡ true → b ≡ true
          and_left true c is = refl
          and_left false c is = absurd (true≢false (sym is))

      -- the line is too long for it
      pub too_long : (file : PromptKind) → file_read reply ≡ Some file → refuses_by too_small_text reply ≡ true → Stops conn chain now first seat TooLong
      too_long file of_read is = let none = no_question is in record {
        entered = 6;
        heard = d.begun.heard;
        opened = d.opened;
        opens = d.begun.opens;
        talk = d.talk;
        added = d.added;
        made = d.made;
        replies = reply ∷ d.replies;
        talks = d.talks;
        begins = inl d.begun.both;
        all = record { whole = refl; both_open = d.begun.both; all = rw (d.goes, of_read, none) (sym d.wants); asked = rw (d.goes, of_read, none) (sym d.asked) };
        in_use = sym d.begun.free;
        too_long = rw (d.fits, of_read, is) refl;
      }

      -- there is no memory for it
      unread : (file : PromptKind) → file_read reply ≡ Some file → refuses_by too_small_text reply ≡ false → Stops conn chain now first seat e.NoMemory
      unread file of_read fits = record {
        entered = 6;
        heard = d.begun.heard;
        opened = d.opened;
        opens = d.begun.opens;
        talk = d.talk;
        added = d.added;
        made = d.made;
        replies = reply ∷ d.replies;
        talks = d.talks;
        begins = inl d.begun.both;
        all = tt;
        in_use = sym d.begun.free;
        too_long = rw (d.fits, of_read, fits) refl;
      }

      -- it holds none
      holds_none : (file : PromptKind) → file_read reply ≡ Some file → question_read reply ≡ None → refuses_by too_small_text reply ≡ false → Stops conn chain now first seat NoQuestion
      holds_none file of_read none fits = record {
        entered = 6;
        heard = d.begun.heard;
        opened = d.opened;
        opens = d.begun.opens;
        talk = d.talk;
        added = d.added;
        made = d.made;
        replies = reply ∷ d.replies;
        talks = d.talks;
        begins = inl d.begun.both;
        all = (record { whole = refl; both_open = d.begun.both; all = rw (d.goes, of_read, none) (sym d.wants); asked = rw (d.goes, of_read, none) (sym d.asked) }, rw (d.goes, of_read, none) refl);
        in_use = sym d.begun.free;
        too_long = rw (d.fits, of_read, fits) refl;
      }

      pub unanswered : (file : PromptKind) (end : PromptsEnd) → file_read reply ≡ Some file → Asked (Err end) reply → Stops conn chain now first seat end
      unanswered file Idle of_read is = absurd is
      unanswered file InUse of_read is = absurd is
      unanswered file TooLong of_read is = too_long file of_read is
      unanswered file NoQuestion of_read is = holds_none file of_read is.0 is.1
      unanswered file Gone of_read is = absurd is
      unanswered file e.NoMemory of_read is = unread file of_read is

      -- the chain was asked what it holds
      pub asked : (file : PromptKind) (q : Question) (say : Say) (later : List Manner) → file_read reply ≡ Some file → Asked (Ok q) reply → say ≡ word_of q now → later ≡ after_answer q now
          → Speaks conn chain later first seat (read_of file ∷ write_of file (answer_text q say) ∷ [])
      asked file q say later of_read is word behind_it = record {
        opened = d.opened;
        begun = d.begun;
        talk = d.talk;
        added = d.added;
        made = d.made;
        replies = reply ∷ d.replies;
        talks = d.talks;
        wants = rw (d.goes, of_read, is.0, d.asked, word) (ap (λ (l : List TMsg). read_of file ∷ write_of file (answer_text q (word_of q now)) ∷ l) d.wants);
        asked = rw (d.goes, of_read, is.0, d.asked, behind_it) refl;
        goes = rw (d.goes, of_read, is.0) refl;
        fits = rw (d.fits, of_read, is.1) refl;
      }

    -- ---- the end

    -- the connection stays as it is
    pub still_open : 2 ≤ length chain → (end : PromptsEnd) → (end ≡ InUse → ⊥) → Stops conn chain now first seat end → PromptsSo conn chain now first seat end
    still_open some Idle live d = absurd d.all
    still_open some InUse live d = absurd (live refl)
    still_open some TooLong live d = (
      some,
      record {
        entered = d.entered;
        heard = d.heard;
        opened = d.opened;
        opens = d.opens;
        talk = d.talk;
        last = [];
        added = d.added;
        made = d.made;
        replies = d.replies;
        talks = d.talks;
        begins = d.begins;
        all = d.all;
        in_use = d.in_use;
        too_long = d.too_long;
        leaves = refl;
      },
    )
    still_open some NoQuestion live d = (
      some,
      record {
        entered = d.entered;
        heard = d.heard;
        opened = d.opened;
        opens = d.opens;
        talk = d.talk;
        last = [];
        added = d.added;
        made = d.made;
        replies = d.replies;
        talks = d.talks;
        begins = d.begins;
        all = d.all;
        in_use = d.in_use;
        too_long = d.too_long;
        leaves = refl;
      },
    )
    still_open some Gone live d = (
      some,
      record {
        entered = d.entered;
        heard = d.heard;
        opened = d.opened;
        opens = d.opens;
        talk = d.talk;
        last = [];
        added = d.added;
        made = d.made;
        replies = d.replies;
        talks = d.talks;
        begins = d.begins;
        all = d.all;
        in_use = d.in_use;
        too_long = d.too_long;
        leaves = refl;
      },
    )
    still_open some e.NoMemory live d = (
      some,
      record {
        entered = d.entered;
        heard = d.heard;
        opened = d.opened;
        opens = d.opens;
        talk = d.talk;
        last = [];
        added = d.added;
        made = d.made;
        replies = d.replies;
        talks = d.talks;
        begins = d.begins;
        all = d.all;
        in_use = d.in_use;
        too_long = d.too_long;
        leaves = refl;
      },
    )

  -- it is hung up
  pub hung : (now : List Manner) (first before after : HubSeat) (old new : List ℕ) (n : ℕ) → among (numbers before) n ≡ true → 2 ≤ length chain → (end : PromptsEnd) (reply : Result StepAnswer NoMemory) → end ≡ InUse
      → IsSubmitted (Hang conn) reply old new before after → Stops conn chain now first before end → PromptsSo conn chain now first after end
  hung now first before after old new n is_mine some InUse (Err x) is s d = absurd (true≢false (sym s.answered.0))
  hung now first before after old new n is_mine some InUse (Ok answered) is s d = (
    some,
    record {
      entered = d.entered;
      heard = d.heard;
      opened = d.opened;
      opens = d.opens;
      talk = d.talk;
      last = entry (before_it (Hang conn) (Ok answered) old new before after s) (Hang conn) ∷ [];
      added = adds_one (Hang conn) answered old new first before after (d.talk ++ d.opened) n is_mine d.added s;
      made = d.made;
      replies = d.replies;
      talks = d.talks;
      begins = d.begins;
      all = d.all;
      in_use = d.in_use;
      too_long = d.too_long;
      leaves = refl;
    },
  )
  hung now first before after old new n is_mine some Idle reply is s d = absurd d.all
  hung now first before after old new n is_mine some TooLong reply is s d = absurd cc
  hung now first before after old new n is_mine some NoQuestion reply is s d = absurd cc
  hung now first before after old new n is_mine some Gone reply is s d = absurd cc
  hung now first before after old new n is_mine some e.NoMemory reply is s d = absurd cc

-- a frame that was made of other bytes is spelled as these are
pub spelled_as : (made : Result (List ℕ) NoMemory) (bytes frame : List ℕ) → IfOk made (λ x. x ≡ bytes) → bytes ≡ frame → IfOk made (λ x. x ≡ frame)
spelled_as (Ok x) bytes frame is same = is ∙ same
spelled_as (Err short) bytes frame is same = tt
