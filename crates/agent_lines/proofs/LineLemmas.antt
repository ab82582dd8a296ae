-- A connection turn by turn: what was entered, drawn and written so far, and how it ends.
use Rattle.std.proofs.Common.{◌≡◌, ◌≢◌, ℕ, ◌+◌, ◌<◌, ◌≤◌, List, [], ◌∷◌, ◌++◌, length, take, drop, take-append-drop, length-drop, Option, Some, None, true, false, refl, sym, ap, subst, ◌∙◌, append_assoc, append-nil, length-append, inl, inr, ◌⊎◌, arith, true≢false}
use Rattle.std.specs.Prelude.{Result, Ok, Err, OnOk, OnErr, IfErr}
use Rattle.std.specs.List.{AllByRecursion, concat}
use Rattle.std.specs.Io.KnownBytes.{Consumes, IsAtEnd, Keeps}
use Rattle.std.proofs.KnownBytes.{Consumes-kept, Consumes-nil, Consumes-trans}
use Rattle.std.proofs.lemmas.List.{length-take-le}
use Rattle.std.proofs.Math.ListN.{drop_of_length-le}
use Rattle.wire_streams.specs.Causes.{Rose}
use Rattle.wire_streams.specs.Streams.{Gains}
use Rattle.wire_streams.proofs.StreamLemmas.{Gains-nil, Gains-trans}
use Rattle.nine.specs.Streams.{IsBad, IsShort, Front, frames, front as at_front}
use Rattle.nine.specs.Framed.{Framing, passed, with_more}
use Rattle.nine.specs.Framing.{HasHandedOut, IsWithin}
use Rattle.nine.proofs.StreamLaws.{all_frames, behind_frames, frames_bad, frames_short, handed_then, length_fed}
use Rattle.turn_lock.specs.Fronts.{among, events, made, own, Front as Seen}
use Rattle.turn_lock.specs.Seats.{front, numbers}
use Rattle.agent_history.specs.declared.event.Event.{Event}
use Rattle.agent_history.specs.declared.event.Event.TheVariants.{Hang, Take}
use Rattle.agent_history.specs.declared.event.StepAnswer.{StepAnswer}
use Rattle.agent_history.specs.Histories.{answer, has_stopped, is_reply}
use Rattle.wire_base.specs.declared.bytes.NoMemory.{NoMemory as Short}
use Rattle.agent_hub.specs.Submits.{HubSeat, IsSubmitted}
use Rattle.agent_hub.specs.Entries.{Entered, entry}
use Rattle.agent_hub.specs.Requesting.{Drawn, frames_in, frames_of, most_frame, words_of}
use Rattle.agent_hub.specs.Exchanging.{Converses, EntersAll, IsCollected, IsExchanged, TakesEndSo, without_takes}
use Rattle.agent_hub.specs.declared.exchange.Exchanged.{Exchanged}
use Rattle.agent_hub.specs.declared.exchange.TakesEnd.{TakesEnd}
use Rattle.agent_hub.specs.declared.exchange.TakesEnd.TheVariants as ended
use Rattle.agent_hub.proofs.EntryLemmas.{adds_none, adds_one, before_it}
use Rattle.agent_hub.proofs.ExchangeLemmas.{collected_more, exchanged_more}
use Rattle.nine.specs.Batches.{AreFrames}
use Rattle.nine.proofs.BatchLemmas.{next_ones, their_frames}
use Rattle.agent_lines.specs.declared.ends.LineEnd.{LineEnd}
use Rattle.agent_lines.specs.declared.ends.LineEnd.TheVariants.{End, Torn, BadFrame, ReadFault, WordFault, Flood, NoMemory, Stopped, WriteFault}
use Rattle.agent_lines.specs.Lining.{CausedBy, DrawsAll, Ends, EndsBy, HandsAll, HandsSome, LineEndsSo, MissesBytes, Moment, Reads, Serves, TookAll, moment, most_batch, most_input}
use Rattle.agent_lines.specs.Turns.{BatchEndsSo, DrawsMore, Going, Halts, InputEndsBy, Sends, SettledBy, Settles, SettlesSo, TurnSo}

-- ---- words and frames

none_drawn : (words : Option (List (List ℕ))) → DrawsAll words words []
none_drawn None = tt
none_drawn (Some words) = refl

pub draws_on : (a b c : Option (List (List ℕ))) (xs ys : List (List ℕ)) → DrawsAll a b xs → DrawsAll b c ys → DrawsAll a c (xs ++ ys)
draws_on None b c xs ys p q = tt
draws_on (Some a) None c xs ys p q = absurd p
draws_on (Some a) (Some b) None xs ys p q = absurd q
draws_on (Some a) (Some b) (Some c) xs ys p q = p ∙ ap (λ (l : List (List ℕ)). xs ++ l) q ∙ sym (append_assoc xs ys c)

-- some words more
pub draws_more : (a b c : Option (List (List ℕ))) (xs ys : List (List ℕ)) → DrawsAll a b xs → DrawsMore b c xs ys → DrawsAll a c ys
draws_more a b c xs ys p q = subst (DrawsAll a c) (sym q.parts) (draws_on a b c xs q.more p q.drew)

frames_both : (xs ys : List Drawn) → frames_of (xs ++ ys) ≡ frames_of ys ++ frames_of xs
frames_both [] ys = sym (append-nil (frames_of ys))
frames_both (d ∷ xs) ys = ap (λ (l : List (List ℕ)). l ++ d.frame ∷ []) (frames_both xs ys) ∙ append_assoc (frames_of ys) (frames_of xs) (d.frame ∷ [])

words_both : (xs ys : List Drawn) → words_of (xs ++ ys) ≡ words_of ys ++ words_of xs
words_both [] ys = sym (append-nil (words_of ys))
words_both (d ∷ xs) ys = ap (λ (l : List (List ℕ)). l ++ d.word ∷ []) (words_both xs ys) ∙ append_assoc (words_of ys) (words_of xs) (d.word ∷ [])

whole : (xs : List (List ℕ)) (n : ℕ) → length xs ≤ n → take n xs ≡ xs
whole xs n few = sym (append-nil (take n xs)) ∙ ap (λ (l : List (List ℕ)). take n xs ++ l) (sym (drop_of_length-le xs few)) ∙ take-append-drop n xs

first_of : (xs : List (List ℕ)) → 0 < length xs → (x : List ℕ) × (rest : List (List ℕ)) × (xs ≡ x ∷ rest)
first_of [] some = absurd (omega (arith, some))
first_of (x ∷ rest) some = (x, rest, refl)

enters_few : (end : TakesEnd) (n most : ℕ) → EntersAll end n most → n ≤ most
enters_few ended.NoneLeft n most is = omega (arith, is)
enters_few ended.Stopped n most is = omega (arith, is)
enters_few ended.Left n most few = few

-- ---- what was served so far

-- nothing
serves_none : (conn : ℕ) (m : Moment) → Serves conn [] [] [] [] m m
serves_none conn m = record { drawn = []; mine = []; added = adds_none m.seat; entered = refl; are = refl; drew = none_drawn m.words; text = []; gave = refl; written = Gains-nil m.output }

module _ (conn : ℕ) (first : Moment) where
  -- a batch more: of the words that were drawn the first ones were used
  serves_batch : (some frames ws : List (List ℕ)) (came : Exchanged) (old new : List ℕ) (seat after : HubSeat) (words later : Option (List (List ℕ))) (input output : Option (List ℕ)) → Serves conn [] some [] old first (moment seat words input output)
      → DrawsAll words later ws → IsExchanged conn frames ws came old new seat after → Serves conn [] (some ++ take came.entered frames) (drop came.entered ws) new first (moment after later input output)
  serves_batch some frames ws came old new seat after words later input output s drew x =
      let c : Converses conn s.drawn (s.text ++ old) first.seat seat = record { mine = s.mine; added = s.added; asks = s.entered; gave = s.gave } in
      let g = exchanged_more conn s.drawn (s.text ++ old) frames ws came old new first.seat seat after c x in
      let before : DrawsAll first.words words (words_of s.drawn) = subst (DrawsAll first.words words) (append-nil (words_of s.drawn)) s.drew in
      let parts : words_of s.drawn ++ ws ≡ words_of (x.drawn ++ s.drawn) ++ drop came.entered ws
      = ap (λ (l : List (List ℕ)). words_of s.drawn ++ l) (sym (take-append-drop came.entered ws)) ∙ sym (append_assoc (words_of s.drawn) (take came.entered ws) (drop came.entered ws))
      ∙ ap (λ (l : List (List ℕ)). (words_of s.drawn ++ l) ++ drop came.entered ws) (sym x.words_are) ∙ ap (λ (l : List (List ℕ)). l ++ drop came.entered ws) (sym (words_both x.drawn s.drawn)) in
      record {
        drawn = x.drawn ++ s.drawn;
        mine = g.converses.mine;
        added = g.converses.added;
        entered = g.converses.asks;
        are = frames_both x.drawn s.drawn ∙ ap (λ (l : List (List ℕ)). l ++ frames_of x.drawn) s.are ∙ ap (λ (l : List (List ℕ)). some ++ l) x.frames_are;
        drew = subst (DrawsAll first.words later) parts (draws_on first.words words later (words_of s.drawn) ws before drew);
        text = s.text;
        gave = g.converses.gave ∙ append_assoc s.text old g.given ∙ ap (λ (t : List ℕ). s.text ++ t) (sym g.out);
        written = s.written;
      }

  -- takes alone
  serves_takes : (wanted spare : List (List ℕ)) (end : TakesEnd) (old new : List ℕ) (seat after : HubSeat) (words : Option (List (List ℕ))) (input output : Option (List ℕ)) → Serves conn [] wanted spare old first (moment seat words input output)
      → IsCollected conn end old new seat after → Serves conn [] wanted spare new first (moment after words input output)
  serves_takes wanted spare end old new seat after words input output s x =
      let c : Converses conn s.drawn (s.text ++ old) first.seat seat = record { mine = s.mine; added = s.added; asks = s.entered; gave = s.gave } in
      let g = collected_more conn s.drawn (s.text ++ old) end old new first.seat seat after c x in
      record {
        drawn = s.drawn;
        mine = g.converses.mine;
        added = g.converses.added;
        entered = g.converses.asks;
        are = s.are;
        drew = s.drew;
        text = s.text;
        gave = g.converses.gave ∙ append_assoc s.text old g.given ∙ ap (λ (t : List ℕ). s.text ++ t) (sym g.out);
        written = s.written;
      }

  -- a front of what was kept was written
  serves_sent : (wanted spare : List (List ℕ)) (old new : List ℕ) (seat : HubSeat) (words : Option (List (List ℕ))) (input held holds : Option (List ℕ)) → Serves conn [] wanted spare old first (moment seat words input held)
      → Sends held holds old new → Serves conn [] wanted spare new first (moment seat words input holds)
  serves_sent wanted spare old new seat words input held holds s t = record {
    drawn = s.drawn;
    mine = s.mine;
    added = s.added;
    entered = s.entered;
    are = s.are;
    drew = s.drew;
    text = s.text ++ t.sent;
    gave = s.gave ∙ ap (λ (l : List ℕ). s.text ++ l) t.parts ∙ sym (append_assoc s.text t.sent new);
    written = Gains-trans first.output held holds s.text t.sent s.written t.gains;
  }

  -- something was read
  serves_read : (wanted spare : List (List ℕ)) (kept : List ℕ) (seat : HubSeat) (words : Option (List (List ℕ))) (input next output : Option (List ℕ)) → Serves conn [] wanted spare kept first (moment seat words input output) → Serves conn [] wanted spare kept first (moment seat words next output)
  serves_read wanted spare kept seat words input next output s = record { drawn = s.drawn; mine = s.mine; added = s.added; entered = s.entered; are = s.are; drew = s.drew; text = s.text; gave = s.gave; written = s.written }

  -- it was hung up
  serves_hung : (wanted spare : List (List ℕ)) (kept out new : List ℕ) (a : StepAnswer) (seat after : HubSeat) (words : Option (List (List ℕ))) (input output : Option (List ℕ)) (n : ℕ) → among (numbers seat) n ≡ true → Serves conn [] wanted spare kept first (moment seat words input output)
      → IsSubmitted (Hang conn) (Ok a) out new seat after → Serves conn (Hang conn ∷ []) wanted spare kept first (moment after words input output)
  serves_hung wanted spare kept out new a seat after words input output n is_mine s h = record {
    drawn = s.drawn;
    mine = entry (before_it (Hang conn) (Ok a) out new seat after h) (Hang conn) ∷ s.mine;
    added = adds_one (Hang conn) a out new first.seat seat after s.mine n is_mine s.added h;
    entered = ap (λ (l : List Event). Hang conn ∷ l) s.entered;
    are = s.are;
    drew = s.drew;
    text = s.text;
    gave = append-nil _ ∙ s.gave;
    written = s.written;
  }

-- ---- the frames of a batch

-- what all of them are, where so many were handed on before
frames_then : (f : Framing) (stream : List ℕ) (some : List (List ℕ)) (count size : ℕ) → HasHandedOut f stream some → f.limit ≡ most_frame → AreFrames f.limit f.held count size
    → (others : List (List ℕ)) × (frames_in stream ≡ some ++ (frames_in (take size f.held) ++ others))
frames_then f stream some count size cut limit a =
    let each : AllByRecursion (IsWithin most_frame) some = subst (λ (l : ℕ). AllByRecursion (IsWithin l) some) limit cut.each in
    let b : AreFrames most_frame f.held count size = subst (λ (l : ℕ). AreFrames l f.held count size) limit a in
    let rest = drop size f.held in
    let held : frames_in f.held ≡ b.some ++ frames_in rest = ap (frames most_frame) (sym (take-append-drop size f.held) ∙ ap (λ (l : List ℕ). l ++ rest) b.parts) ∙ handed_then most_frame b.some rest b.each in
    let them : frames_in (take size f.held) ≡ b.some = their_frames most_frame f.held count size b in
    (frames_in rest, ap (frames most_frame) cut.parts ∙ handed_then most_frame some f.held each ∙ ap (λ (l : List (List ℕ)). some ++ l) (held ∙ ap (λ (l : List (List ℕ)). l ++ frames_in rest) (sym them)))

count_there : (f : Framing) (count size : ℕ) → f.limit ≡ most_frame → AreFrames f.limit f.held count size → length (frames_in (take size f.held)) ≡ count
count_there f count size limit a =
    let b : AreFrames most_frame f.held count size = subst (λ (l : ℕ). AreFrames l f.held count size) limit a in
    ap length (their_frames most_frame f.held count size b) ∙ sym b.count_is

next_cut : (f new : Framing) (stream : List ℕ) (some : List (List ℕ)) (count size : ℕ) → HasHandedOut f stream some → f.limit ≡ most_frame → AreFrames f.limit f.held count size → new ≡ passed f size → HasHandedOut new stream (some ++ frames_in (take size f.held))
next_cut f new stream some count size cut limit a is =
    subst (λ (g : Framing). HasHandedOut g stream (some ++ frames_in (take size f.held))) (sym is)
    (subst (λ (l : ℕ). HasHandedOut (passed f size) stream (some ++ frames l (take size f.held))) limit (next_ones f stream some count size cut a))

reads_all : (left next : Option (List ℕ)) (input : List ℕ) → Consumes left next input → length input ≤ most_input → Reads left next input []
reads_all left next input taken few = record { taken = subst (Consumes left next) (sym (append-nil input)) taken; bounded = few; full = λ some. absurd (omega (arith, some)) }

-- ---- the end of a batch

module _ (conn : ℕ) (first : Moment) (seat after : HubSeat) (words later : Option (List (List ℕ))) (input output : Option (List ℕ)) (old : Framing) (kept put : List ℕ) (count size : ℕ) (ws : List (List ℕ)) (came : Exchanged) where
  abbrev of_batch : List (List ℕ)
  of_batch = frames_in (take size old.held)

  -- the first frames of it were handed on
  some_handed : (g : Going conn first (moment seat words input output) old kept) → AreFrames old.limit old.held count size → count ≤ most_batch → length ws ≤ count → DrawsAll words later ws → IsExchanged conn of_batch ws came kept put seat after
      → (end : LineEnd) → ((spare wanted : List (List ℕ)) → HandsSome g.stream wanted spare → EndsBy end input g.stream [] wanted spare) → Ends conn [] end put first (moment after later input output)
  some_handed g a few drawn drew x end is =
      let all = frames_then old g.stream g.some count size g.cut g.limit a in
      let e = came.entered in
      let parts : frames_in g.stream ≡ (g.some ++ take e of_batch) ++ (drop e of_batch ++ all.0)
      = all.1 ∙ ap (λ (l : List (List ℕ)). g.some ++ (l ++ all.0)) (sym (take-append-drop e of_batch)) ∙ ap (λ (l : List (List ℕ)). g.some ++ l) (append_assoc (take e of_batch) (drop e of_batch) all.0)
      ∙ sym (append_assoc g.some (take e of_batch) (drop e of_batch ++ all.0)) in
      record {
        input = g.stream;
        behind = [];
        read = reads_all first.input input g.stream g.read g.few;
        wanted = g.some ++ take e of_batch;
        spare = drop e ws;
        why = is (drop e ws) (g.some ++ take e of_batch) (drop e of_batch ++ all.0, parts, omega (arith, few, drawn, length-drop e ws));
        serves = serves_batch conn first g.some of_batch ws came kept put seat after words later input output g.serves drew x;
      }

  -- the next one has no word
  wordless : (g : Going conn first (moment seat words input output) old kept) → AreFrames old.limit old.held count size → length ws < count → DrawsAll words later ws → length ws ≤ came.entered → IsExchanged conn of_batch ws came kept put seat after
      → Ends conn [] WordFault put first (moment after later input output)
  wordless g a less drew used x =
      let all = frames_then old g.stream g.some count size g.cut g.limit a in
      let e = came.entered in
      let next = first_of (drop e of_batch) (omega (arith, less, enters_few came.end e (length ws) x.all, count_there old count size g.limit a, length-drop e of_batch)) in
      let parts : frames_in g.stream ≡ (g.some ++ take e of_batch) ++ next.0 ∷ (next.1 ++ all.0)
      = all.1 ∙ ap (λ (l : List (List ℕ)). g.some ++ (l ++ all.0)) (sym (take-append-drop e of_batch)) ∙ ap (λ (l : List (List ℕ)). g.some ++ ((take e of_batch ++ l) ++ all.0)) next.2
      ∙ ap (λ (l : List (List ℕ)). g.some ++ l) (append_assoc (take e of_batch) (next.0 ∷ next.1) all.0) ∙ sym (append_assoc g.some (take e of_batch) (next.0 ∷ (next.1 ++ all.0))) in
      record {
        input = g.stream;
        behind = [];
        read = reads_all first.input input g.stream g.read g.few;
        wanted = g.some ++ take e of_batch;
        spare = drop e ws;
        why = (next.0, next.1 ++ all.0, parts, drop_of_length-le ws used);
        serves = serves_batch conn first g.some of_batch ws came kept put seat after words later input output g.serves drew x;
      }

  -- all of it was handed on
  handed_whole : (g : Going conn first (moment seat words input output) old kept) → (new : Framing) → AreFrames old.limit old.held count size → length ws ≡ count → DrawsAll words later ws → length ws ≤ came.entered → IsExchanged conn of_batch ws came kept put seat after
      → new ≡ passed old size → Going conn first (moment after later input output) new put
  handed_whole g new a drawn drew used x is =
      let e = came.entered in
      let s = serves_batch conn first g.some of_batch ws came kept put seat after words later input output g.serves drew x in
      let all : take e of_batch ≡ of_batch = whole of_batch e (omega (arith, count_there old count size g.limit a, drawn, used)) in
      let none : drop e ws ≡ [] = drop_of_length-le ws used in
      record {
        stream = g.stream;
        read = g.read;
        few = g.few;
        some = g.some ++ of_batch;
        cut = next_cut old new g.stream g.some count size g.cut g.limit a is;
        limit = ap (λ (f : Framing). f.limit) is ∙ g.limit;
        serves = subst (λ (l : List (List ℕ)). Serves conn [] (g.some ++ of_batch) l put first (moment after later input output)) none
            (subst (λ (l : List (List ℕ)). Serves conn [] (g.some ++ l) (drop e ws) put first (moment after later input output)) all s);
      }

  pub batch_ends : (result drew : Result (Unit {0}) LineEnd) (n : ℕ) (new : Framing) → Going conn first (moment seat words input output) old kept → AreFrames old.limit old.held count size → count ≤ most_batch
      → DrawsAll words later ws → OnOk drew (length ws ≡ count) → OnErr drew (length ws < count) → IfErr drew (λ end. end ≡ WordFault)
      → IsExchanged conn of_batch ws came kept put seat after → n ≡ length ws → BatchEndsSo result drew came n size old new → TurnSo result conn first (moment after later input output) new put
  batch_ends (Ok r) drew n new g a few draws all short which x is (went, used, passes) =
      let drawn : length ws ≡ count = subst (λ (d : Result (Unit {0}) LineEnd). OnOk d (length ws ≡ count)) went all in
      handed_whole g new a drawn draws (omega (arith, used, is)) x passes
  batch_ends (Err end) drew n new g a few draws all short which x is (inl memory) =
      subst (λ (e : LineEnd). Halts conn e first (moment after later input output) put) (sym memory)
      (record { ends = some_handed g a few (drawn_few drew all short) draws x NoMemory (λ spare wanted h. h); fails = tt })
    where
      drawn_few : (d : Result (Unit {0}) LineEnd) → OnOk d (length ws ≡ count) → OnErr d (length ws < count) → length ws ≤ count
      drawn_few (Ok u) all short = omega (arith, all)
      drawn_few (Err u) all short = omega (arith, short)
  batch_ends (Err end) drew n new g a few draws all short which x is (inr (inl stopped)) =
      subst (λ (e : LineEnd). Halts conn e first (moment after later input output) put) (sym stopped)
      (record { ends = some_handed g a few (drawn_few drew all short) draws x Stopped (λ spare wanted h. h); fails = tt })
    where
      drawn_few : (d : Result (Unit {0}) LineEnd) → OnOk d (length ws ≡ count) → OnErr d (length ws < count) → length ws ≤ count
      drawn_few (Ok u) all short = omega (arith, all)
      drawn_few (Err u) all short = omega (arith, short)
  batch_ends (Err end) drew n new g a few draws all short which x is (inr (inr failed)) =
      let less : length ws < count = subst (λ (d : Result (Unit {0}) LineEnd). OnErr d (length ws < count)) failed.0 short in
      subst (λ (e : LineEnd). Halts conn e first (moment after later input output) put) (sym (subst (λ (d : Result (Unit {0}) LineEnd). IfErr d (λ end. end ≡ WordFault)) failed.0 which))
      (record { ends = wordless g a less draws (omega (arith, failed.1, is)) x; fails = tt })

  -- by what was handed to the hub
  pub batch_done : (result drew : Result (Unit {0}) LineEnd) (n : ℕ) (new : Framing) (front : List ℕ) (given : List (List ℕ)) → front ≡ take size old.held → given ≡ ws → Going conn first (moment seat words input output) old kept → AreFrames old.limit old.held count size → count ≤ most_batch
      → DrawsAll words later ws → OnOk drew (length ws ≡ count) → OnErr drew (length ws < count) → IfErr drew (λ end. end ≡ WordFault)
      → IsExchanged conn (frames_in front) given came kept put seat after → n ≡ length ws → BatchEndsSo result drew came n size old new → TurnSo result conn first (moment after later input output) new put
  batch_done result drew n new front given cut are g a few draws all short which x is =
      batch_ends result drew n new g a few draws all short which (subst (λ (l : List (List ℕ)). IsExchanged conn of_batch l came kept put seat after) are (subst (λ (l : List ℕ). IsExchanged conn (frames_in l) given came kept put seat after) cut x)) is

-- ---- what comes

halts_all : (conn : ℕ) (first now : Moment) (f : Framing) (kept : List ℕ) (end : LineEnd) → (g : Going conn first now f kept) → at_front most_frame f.held ≡ IsShort → (behind : List ℕ) → Reads first.input now.input g.stream behind
    → EndsBy end now.input g.stream behind g.some [] → Ends conn [] end kept first now
halts_all conn first now f kept end g short behind read why = record { input = g.stream; behind = behind; read = read; wanted = g.some; spare = []; why = why; serves = g.serves }

-- all whole frames were handed on where none stands at the front of what is left
all_handed : (conn : ℕ) (first now : Moment) (f : Framing) (kept : List ℕ) → (g : Going conn first now f kept) → frames_in f.held ≡ [] → g.some ≡ frames_in g.stream
all_handed conn first now f kept g none =
    let each : AllByRecursion (IsWithin most_frame) g.some = subst (λ (l : ℕ). AllByRecursion (IsWithin l) g.some) g.limit g.cut.each in
    sym (ap (frames most_frame) g.cut.parts ∙ handed_then most_frame g.some f.held each ∙ ap (λ (l : List (List ℕ)). g.some ++ l) none ∙ append-nil g.some)

cut_all : (conn : ℕ) (first now : Moment) (f : Framing) (kept : List ℕ) → (g : Going conn first now f kept) → frames_in f.held ≡ [] → HasHandedOut f g.stream (frames_in g.stream)
cut_all conn first now f kept g none = subst (HasHandedOut f g.stream) (all_handed conn first now f kept g none) g.cut

module _ (conn : ℕ) (first : Moment) (seat : HubSeat) (words : Option (List (List ℕ))) (old new output : Option (List ℕ)) (kept : List ℕ) where
  -- a read that changed nothing
  stays : (f : Framing) → Going conn first (moment seat words old output) f kept → Keeps old new → Going conn first (moment seat words new output) f kept
  stays f g same = record {
    stream = g.stream;
    read = Consumes-kept first.input old new g.stream g.read same;
    few = g.few;
    some = g.some;
    cut = g.cut;
    limit = g.limit;
    serves = serves_read conn first g.some [] kept seat words old new output g.serves;
  }

  -- a read failed
  pub read_failed : (f : Framing) → Going conn first (moment seat words old output) f kept → at_front most_frame f.held ≡ IsShort → Keeps old new → Halts conn ReadFault first (moment seat words new output) kept
  read_failed f before short same =
      let g = stays f before same in
      let none = frames_short most_frame f.held short in
      record {
        ends = halts_all conn first (moment seat words new output) f kept ReadFault g short [] (reads_all first.input new g.stream g.read g.few)
            (refl, behind_frames most_frame f g.stream IsShort (cut_all conn first (moment seat words new output) f kept g none) short, (all_handed conn first (moment seat words new output) f kept g none, refl));
        fails = tt;
      }

  -- the input is at its end
  pub read_ended : (f : Framing) (end : LineEnd) → Going conn first (moment seat words old output) f kept → at_front most_frame f.held ≡ IsShort → Keeps old new → IsAtEnd new → InputEndsBy f end → Halts conn end first (moment seat words new output) kept
  read_ended f end before short same at_end (inl inside) =
      let g = stays f before same in
      let none = frames_short most_frame f.held short in
      let all = all_handed conn first (moment seat words new output) f kept g none in
      let cut = cut_all conn first (moment seat words new output) f kept g none in
      subst (λ (e : LineEnd). Halts conn e first (moment seat words new output) kept) (sym inside.1) (record {
        ends = halts_all conn first (moment seat words new output) f kept (Torn f.before) g short [] (reads_all first.input new g.stream g.read g.few)
            (at_end, refl, cut.place, omega (arith, inside.0, length_fed f g.stream (frames_in g.stream) cut), behind_frames most_frame f g.stream IsShort cut short, (all, refl));
        fails = tt;
      })
  read_ended f end before short same at_end (inr done) =
      let g = stays f before same in
      let none = frames_short most_frame f.held short in
      let all = all_handed conn first (moment seat words new output) f kept g none in
      let cut = cut_all conn first (moment seat words new output) f kept g none in
      subst (λ (e : LineEnd). Halts conn e first (moment seat words new output) kept) (sym done.1) (record {
        ends = halts_all conn first (moment seat words new output) f kept End g short [] (reads_all first.input new g.stream g.read g.few)
            (at_end, refl, all_frames most_frame f g.stream cut done.0, (all, refl));
        fails = tt;
      })

  -- more came than is taken
  pub read_flood : (f : Framing) (piece : List ℕ) → Going conn first (moment seat words old output) f kept → at_front most_frame f.held ≡ IsShort → 1099511627776 ≤ f.before + length f.held → 0 < length piece → Consumes old new piece → Halts conn Flood first (moment seat words new output) kept
  read_flood f piece g short full some more =
      let now = moment seat words old output in
      let none = frames_short most_frame f.held short in
      let cut = cut_all conn first now f kept g none in
      let long = length_fed f g.stream g.some g.cut in
      record {
        ends = record {
          input = g.stream;
          behind = piece;
          read = record { taken = Consumes-trans first.input old new g.stream piece g.read more; bounded = g.few; full = λ any. omega (arith, full, long, g.few) };
          wanted = g.some;
          spare = [];
          why = (some, behind_frames most_frame f g.stream IsShort cut short, (all_handed conn first now f kept g none, refl));
          serves = serves_read conn first g.some [] kept seat words old new output g.serves;
        };
        fails = tt;
      }

  -- a piece more
  pub read_more : (f f' : Framing) (piece : List ℕ) → Going conn first (moment seat words old output) f kept → Consumes old new piece → f.before + length f.held + length piece ≤ 1099511627776 → f' ≡ with_more f piece → Going conn first (moment seat words new output) f' kept
  read_more f f' piece g more few is =
      let long = length_fed f g.stream g.some g.cut in
      let cut : HasHandedOut (with_more f piece) (g.stream ++ piece) g.some = record { parts = ap (λ (l : List ℕ). l ++ piece) g.cut.parts ∙ append_assoc (concat g.some) f.held piece; place = g.cut.place; each = g.cut.each } in
      record {
        stream = g.stream ++ piece;
        read = Consumes-trans first.input old new g.stream piece g.read more;
        few = omega (arith, few, long, length-append g.stream piece);
        some = g.some;
        cut = subst (λ (h : Framing). HasHandedOut h (g.stream ++ piece) g.some) (sym is) cut;
        limit = ap (λ (h : Framing). h.limit) is ∙ g.limit;
        serves = serves_read conn first g.some [] kept seat words old new output g.serves;
      }

no_size : (limit : ℕ) (held : List ℕ) (count size : ℕ) → AreFrames limit held count size → count ≡ 0 → size ≡ 0
no_size limit held count size a zero =
    let none_some : length a.some ≡ 0 = omega (arith, zero, a.count_is) in
    let empty : a.some ≡ [] = nothing a.some none_some in
    let taken : take size held ≡ [] = a.parts ∙ ap concat empty in
    omega (arith, ap length taken, length-take-le size held a.within)
  where
    nothing : (xs : List (List ℕ)) → length xs ≡ 0 → xs ≡ []
    nothing [] e = refl
    nothing (x ∷ xs) e = absurd (omega (arith, e))

-- what stands behind no frames stands at the front
pub front_there : (f : Framing) (count size : ℕ) (is : Front) → f.limit ≡ most_frame → AreFrames f.limit f.held count size → count ≡ 0 → at_front f.limit (drop size f.held) ≡ is → at_front most_frame f.held ≡ is
front_there f count size is limit a zero stands = ap (λ (l : ℕ). at_front l f.held) (sym limit) ∙ ap (λ (k : ℕ). at_front f.limit (drop k f.held)) (sym (no_size f.limit f.held count size a zero)) ∙ stands

pub front_here : (f : Framing) (count size : ℕ) (is : Front) → AreFrames f.limit f.held count size → count ≡ 0 → at_front f.limit (drop size f.held) ≡ is → at_front f.limit f.held ≡ is
front_here f count size is a zero stands = ap (λ (k : ℕ). at_front f.limit (drop k f.held)) (sym (no_size f.limit f.held count size a zero)) ∙ stands

-- a bad size stands at the front
pub bad_ends : (conn : ℕ) (first now : Moment) (f : Framing) (kept : List ℕ) (count size bad at : ℕ) → Going conn first now f kept → AreFrames f.limit f.held count size → count ≡ 0 → at_front f.limit (drop size f.held) ≡ IsBad bad → at ≡ f.before → Halts conn (BadFrame at bad) first now kept
bad_ends conn first now f kept count size bad at g a zero is place =
    let there : at_front most_frame f.held ≡ IsBad bad = front_there f count size (IsBad bad) g.limit a zero is in
    let none = frames_bad most_frame f.held bad there in
    let cut = cut_all conn first now f kept g none in
    record {
      ends = record {
        input = g.stream;
        behind = [];
        read = reads_all first.input now.input g.stream g.read g.few;
        wanted = g.some;
        spare = [];
        why = (place ∙ cut.place, behind_frames most_frame f g.stream (IsBad bad) cut there, (all_handed conn first now f kept g none, refl));
        serves = g.serves;
      };
      fails = tt;
    }

-- ---- takes and writes

module _ (conn : ℕ) (first : Moment) (f : Framing) where
  -- what is kept was written in part
  pub offered : (result : Result (Unit {0}) LineEnd) (seat : HubSeat) (words : Option (List (List ℕ))) (input held holds : Option (List ℕ)) (old new : List ℕ) → Going conn first (moment seat words input held) f old → Sends held holds old new
      → IfErr result (λ end. (end ≡ WriteFault) × (0 < length new)) → TurnSo result conn first (moment seat words input holds) f new
  offered (Ok x) seat words input held holds old new g t failed = record {
    stream = g.stream;
    read = g.read;
    few = g.few;
    some = g.some;
    cut = g.cut;
    limit = g.limit;
    serves = serves_sent conn first g.some [] old new seat words input held holds g.serves t;
  }
  offered (Err end) seat words input held holds old new g t failed =
      let each : AllByRecursion (IsWithin most_frame) g.some = subst (λ (l : ℕ). AllByRecursion (IsWithin l) g.some) g.limit g.cut.each in
      subst (λ (e : LineEnd). Halts conn e first (moment seat words input holds) new) (sym failed.0) (record {
        ends = record {
          input = g.stream;
          behind = [];
          read = reads_all first.input input g.stream g.read g.few;
          wanted = g.some;
          spare = [];
          why = (frames_in f.held, ap (frames most_frame) g.cut.parts ∙ handed_then most_frame g.some f.held each, omega arith);
          serves = serves_sent conn first g.some [] old new seat words input held holds g.serves t;
        };
        fails = failed.1;
      })

  -- replies were taken
  pub took : (end : TakesEnd) (seat after : HubSeat) (words : Option (List (List ℕ))) (input output : Option (List ℕ)) (old new : List ℕ) → Going conn first (moment seat words input output) f old → IsCollected conn end old new seat after → Going conn first (moment after words input output) f new
  took end seat after words input output old new g x = record {
    stream = g.stream;
    read = g.read;
    few = g.few;
    some = g.some;
    cut = g.cut;
    limit = g.limit;
    serves = serves_takes conn first g.some [] end old new seat after words input output g.serves x;
  }

  -- it ends somewhere
  pub cut_short : (end : LineEnd) (now : Moment) (kept : List ℕ) → Going conn first now f kept → ((input : List ℕ) (spare wanted : List (List ℕ)) → HandsSome input wanted spare → EndsBy end now.input input [] wanted spare) → Ends conn [] end kept first now
  cut_short end now kept g why =
      let each : AllByRecursion (IsWithin most_frame) g.some = subst (λ (l : ℕ). AllByRecursion (IsWithin l) g.some) g.limit g.cut.each in
      record {
        input = g.stream;
        behind = [];
        read = reads_all first.input now.input g.stream g.read g.few;
        wanted = g.some;
        spare = [];
        why = why g.stream [] g.some (frames_in f.held, ap (frames most_frame) g.cut.parts ∙ handed_then most_frame g.some f.held each, omega arith);
        serves = g.serves;
      }

  pub stopped : (now : Moment) (kept : List ℕ) → Going conn first now f kept → Halts conn Stopped first now kept
  stopped now kept g = record { ends = cut_short Stopped now kept g (λ input spare wanted h. h); fails = tt }

  pub short_there : (now : Moment) (kept : List ℕ) → Going conn first now f kept → Halts conn NoMemory first now kept
  short_there now kept g = record { ends = cut_short NoMemory now kept g (λ input spare wanted h. h); fails = tt }

-- ---- the beginning

-- nothing was read yet
pub begun : (conn : ℕ) (m : Moment) (f : Framing) (kept : List ℕ) → f ≡ record { limit = most_frame; before = 0; held = [] } → kept ≡ [] → Going conn m m f kept
begun conn m f kept is none = record {
  stream = [];
  read = Consumes-nil m.input;
  few = omega arith;
  some = [];
  cut = subst (λ (h : Framing). HasHandedOut h [] []) (sym is) (record { parts = refl; place = refl; each = tt });
  limit = ap (λ (h : Framing). h.limit) is;
  serves = subst (λ (l : List ℕ). Serves conn [] [] [] l m m) (sym none) (serves_none conn m);
}

-- there was no memory to begin
pub begun_short : (conn : ℕ) (m : Moment) (kept : List ℕ) → kept ≡ [] → Halts conn NoMemory m m kept
begun_short conn m kept none = let f : Framing = record { limit = most_frame; before = 0; held = [] } in short_there conn m f m kept (begun conn m f kept refl none)

-- ---- what is left is taken and written

pub empty : (xs : List ℕ) → length xs ≡ 0 → xs ≡ []
empty [] e = refl
empty (x ∷ xs) e = absurd (omega (arith, e))

all_some : (input : List ℕ) (wanted spare : List (List ℕ)) → HandsAll input wanted spare → HandsSome input wanted spare
all_some input wanted spare all = ([], sym (append-nil wanted ∙ all.0), omega (arith, ap length all.1))

hands_some : (end : LineEnd) (left : Option (List ℕ)) (input behind : List ℕ) (wanted spare : List (List ℕ)) → EndsBy end left input behind wanted spare → HandsSome input wanted spare
hands_some End left input behind wanted spare e = all_some input wanted spare e.3
hands_some (Torn at) left input behind wanted spare e = all_some input wanted spare e.5
hands_some (BadFrame at size) left input behind wanted spare e = all_some input wanted spare e.2
hands_some ReadFault left input behind wanted spare e = all_some input wanted spare e.2
hands_some WordFault left input behind wanted spare e = (e.0 ∷ e.1, e.2, omega (arith, ap length e.3))
hands_some Flood left input behind wanted spare e = all_some input wanted spare e.2
hands_some NoMemory left input behind wanted spare e = e
hands_some Stopped left input behind wanted spare e = e
hands_some WriteFault left input behind wanted spare e = e

module _ (conn : ℕ) (first : Moment) (end : LineEnd) where
  ends_short : (now : Moment) (kept : List ℕ) → Ends conn [] end kept first now → Ends conn [] NoMemory kept first now
  ends_short now kept e = record { input = e.input; behind = e.behind; read = e.read; wanted = e.wanted; spare = e.spare; why = hands_some end now.input e.input e.behind e.wanted e.spare e.why; serves = e.serves }

  ends_failed : (now : Moment) (kept : List ℕ) → Ends conn [] end kept first now → Ends conn [] WriteFault kept first now
  ends_failed now kept e = record { input = e.input; behind = e.behind; read = e.read; wanted = e.wanted; spare = e.spare; why = hands_some end now.input e.input e.behind e.wanted e.spare e.why; serves = e.serves }

  ends_sent : (seat : HubSeat) (words : Option (List (List ℕ))) (input held holds : Option (List ℕ)) (old new : List ℕ) → Ends conn [] end old first (moment seat words input held) → Sends held holds old new → Ends conn [] end new first (moment seat words input holds)
  ends_sent seat words input held holds old new e t = record {
    input = e.input;
    behind = e.behind;
    read = e.read;
    wanted = e.wanted;
    spare = e.spare;
    why = e.why;
    serves = serves_sent conn first e.wanted e.spare old new seat words input held holds e.serves t;
  }

  pub ends_took : (took : TakesEnd) (seat after : HubSeat) (words : Option (List (List ℕ))) (input output : Option (List ℕ)) (old new : List ℕ) → Ends conn [] end old first (moment seat words input output) → IsCollected conn took old new seat after → Ends conn [] end new first (moment after words input output)
  ends_took took seat after words input output old new e x = record {
    input = e.input;
    behind = e.behind;
    read = e.read;
    wanted = e.wanted;
    spare = e.spare;
    why = e.why;
    serves = serves_takes conn first e.wanted e.spare took old new seat after words input output e.serves x;
  }

  -- a write
  pub settle_write : (result : Result (Unit {0}) LineEnd) (seat : HubSeat) (words : Option (List (List ℕ))) (input held holds : Option (List ℕ)) (old new : List ℕ) → Ends conn [] end old first (moment seat words input held) → Sends held holds old new
      → OnErr result (0 < length new) → IfErr result (λ e. e ≡ WriteFault) → SettlesSo result conn end first (moment seat words input holds) new
  settle_write (Ok x) seat words input held holds old new e t left fault = ends_sent seat words input held holds old new e t
  settle_write (Err by) seat words input held holds old new e t left fault =
      let sent = ends_sent seat words input held holds old new e t in
      subst (λ (b : LineEnd). Settles conn b first (moment seat words input holds) new) (sym fault) (record { ends = ends_failed (moment seat words input holds) new sent; misses = left; took = tt })

misses_none : (end : LineEnd) (kept : List ℕ) → kept ≡ [] → (end ≡ WriteFault → ⊥) → MissesBytes end kept
misses_none End kept none unlike = none
misses_none (Torn at) kept none unlike = none
misses_none (BadFrame at size) kept none unlike = none
misses_none ReadFault kept none unlike = none
misses_none WordFault kept none unlike = none
misses_none Flood kept none unlike = none
misses_none NoMemory kept none unlike = none
misses_none Stopped kept none unlike = none
misses_none WriteFault kept none unlike = absurd (unlike refl)

took_all : (end : LineEnd) (conn : ℕ) (seen : Seen Event) → is_reply (answer (events seen) (Take conn)).0 ≡ false → (end ≡ Stopped → ⊥) → TookAll end conn seen
took_all End conn seen none goes = inr none
took_all (Torn at) conn seen none goes = inr none
took_all (BadFrame at size) conn seen none goes = inr none
took_all ReadFault conn seen none goes = inr none
took_all WordFault conn seen none goes = inr none
took_all Flood conn seen none goes = inr none
took_all NoMemory conn seen none goes = tt
took_all Stopped conn seen none goes = absurd (goes refl)
took_all WriteFault conn seen none goes = tt

took_stopped : (end : LineEnd) (conn : ℕ) (seen : Seen Event) → has_stopped (events seen) ≡ true → TookAll end conn seen
took_stopped End conn seen stop = inl stop
took_stopped (Torn at) conn seen stop = inl stop
took_stopped (BadFrame at size) conn seen stop = inl stop
took_stopped ReadFault conn seen stop = inl stop
took_stopped WordFault conn seen stop = inl stop
took_stopped Flood conn seen stop = inl stop
took_stopped NoMemory conn seen stop = tt
took_stopped Stopped conn seen stop = stop
took_stopped WriteFault conn seen stop = tt

module _ (conn : ℕ) (first : Moment) (end : LineEnd) (seat after : HubSeat) (words : Option (List (List ℕ))) (input output : Option (List ℕ)) (old new : List ℕ) where
  -- nothing was left to take, or the agent is looked at once more
  pub settle_done : (took : TakesEnd) (result : Result (Unit {0}) LineEnd) → Ends conn [] end old first (moment seat words input output) → IsCollected conn took old new seat after → new ≡ [] → SettledBy end took result → (end ≡ WriteFault → ⊥)
      → SettlesSo result conn end first (moment after words input output) new
  settle_done took (Ok x) e c none is unlike = ends_took conn first end took seat after words input output old new e c
  settle_done ended.NoneLeft (Err by) e x none is unlike = subst (λ (b : LineEnd). Settles conn b first (moment after words input output) new) (sym is.0)
      (record { ends = ends_took conn first end ended.NoneLeft seat after words input output old new e x; misses = misses_none end new none unlike; took = took_all end conn (front after) x.ends.1 is.1 })
  settle_done ended.Stopped (Err by) e x none is unlike = subst (λ (b : LineEnd). Settles conn b first (moment after words input output) new) (sym is)
      (record { ends = ends_took conn first end ended.Stopped seat after words input output old new e x; misses = misses_none end new none unlike; took = took_stopped end conn (front after) x.ends })
  settle_done ended.Left (Err by) e x none is unlike = subst (λ (b : LineEnd). Settles conn b first (moment after words input output) new) (sym is)
      (record { ends = ends_short conn first end (moment after words input output) new (ends_took conn first end ended.Left seat after words input output old new e x); misses = none; took = tt })

-- after a write fault nothing more is tried
pub fault_settles : (conn : ℕ) (end : LineEnd) (first now : Moment) (kept : List ℕ) → end ≡ WriteFault → Halts conn end first now kept → Settles conn end first now kept
fault_settles conn end first now kept is h =
    let there : Halts conn WriteFault first now kept = subst (λ (e : LineEnd). Halts conn e first now kept) is h in
    subst (λ (e : LineEnd). Settles conn e first now kept) (sym is) (record { ends = there.ends; misses = there.fails; took = tt })

-- ---- the hang

pub all_hung : (conn : ℕ) (end : LineEnd) (first : Moment) (seat after : HubSeat) (words : Option (List (List ℕ))) (input output : Option (List ℕ)) (kept out new : List ℕ) (reply : Result StepAnswer Short) (n : ℕ) → among (numbers seat) n ≡ true
    → Settles conn end first (moment seat words input output) kept → IsSubmitted (Hang conn) reply out new seat after → LineEndsSo end conn first (moment after words input output)
all_hung conn end first seat after words input output kept out new (Err x) n is_mine s h = absurd (true≢false (sym h.answered.0))
all_hung conn end first seat after words input output kept out new (Ok a) n is_mine s h = record {
  unwritten = kept;
  misses = s.misses;
  ends = record {
    input = s.ends.input;
    behind = s.ends.behind;
    read = s.ends.read;
    wanted = s.ends.wanted;
    spare = s.ends.spare;
    why = s.ends.why;
    serves = serves_hung conn first s.ends.wanted s.ends.spare kept out new a seat after words input output n is_mine s.ends.serves h;
  };
  seen = front seat;
  others = h.others;
  hung = subst (λ (ns : List ℕ). front after ≡ made ns (Hang conn ∷ []) ++ (h.others ++ front seat)) (sym h.same_numbers) h.goes_on;
  of_others = subst (λ (ns : List ℕ). own ns h.others ≡ []) (sym h.same_numbers) h.of_others;
  took = s.took;
}

-- ---- causes

rose_since : (old mid new : ℕ) → old ≤ mid → Rose mid new → Rose old new
rose_since old mid new up rose = omega (arith, up, rose)

rose_until : (old mid new : ℕ) → Rose old mid → mid ≤ new → Rose old new
rose_until old mid new rose up = omega (arith, up, rose)

pub caused_since : (end : LineEnd) (r r' s w w' x o o' p : ℕ) → r ≤ r' → w ≤ w' → o ≤ o' → CausedBy end (Rose r' s) (Rose w' x) (Rose o' p) → CausedBy end (Rose r s) (Rose w x) (Rose o p)
caused_since End r r' s w w' x o o' p a b c by = tt
caused_since (Torn at) r r' s w w' x o o' p a b c by = tt
caused_since (BadFrame at size) r r' s w w' x o o' p a b c by = tt
caused_since ReadFault r r' s w w' x o o' p a b c by = rose_since r r' s a by
caused_since WordFault r r' s w w' x o o' p a b c by = rose_since w w' x b by
caused_since Flood r r' s w w' x o o' p a b c by = tt
caused_since NoMemory r r' s w w' x o o' p a b c by = tt
caused_since Stopped r r' s w w' x o o' p a b c by = tt
caused_since WriteFault r r' s w w' x o o' p a b c by = rose_since o o' p c by

pub caused_before : (end : LineEnd) (A B C : Type 0) (o o' p : ℕ) → o ≤ o' → CausedBy end A B (C ⊎ Rose o' p) → CausedBy end A B (C ⊎ Rose o p)
caused_before End A B C o o' p up by = tt
caused_before (Torn at) A B C o o' p up by = tt
caused_before (BadFrame at size) A B C o o' p up by = tt
caused_before ReadFault A B C o o' p up by = by
caused_before WordFault A B C o o' p up by = by
caused_before Flood A B C o o' p up by = tt
caused_before NoMemory A B C o o' p up by = tt
caused_before Stopped A B C o o' p up by = tt
caused_before WriteFault A B C o o' p up (inl c) = inl c
caused_before WriteFault A B C o o' p up (inr rose) = inr (rose_since o o' p up rose)

-- one of those that only a part of it can cause
pub caused_weaker : (end : LineEnd) (A B C D E F : Type 0) → (A → D) → (B → E) → (C → F) → CausedBy end A B C → CausedBy end D E F
caused_weaker End A B C D E F a b c by = tt
caused_weaker (Torn at) A B C D E F a b c by = tt
caused_weaker (BadFrame at size) A B C D E F a b c by = tt
caused_weaker ReadFault A B C D E F a b c by = a by
caused_weaker WordFault A B C D E F a b c by = b by
caused_weaker Flood A B C D E F a b c by = tt
caused_weaker NoMemory A B C D E F a b c by = tt
caused_weaker Stopped A B C D E F a b c by = tt
caused_weaker WriteFault A B C D E F a b c by = c by

pub caused_both : (begun end : LineEnd) (A B : Type 0) (o o' p : ℕ) → CausedBy begun A B (Rose o o') → o ≤ o' → o' ≤ p → CausedBy end (begun ≡ ReadFault) (begun ≡ WordFault) ((begun ≡ WriteFault) ⊎ Rose o' p) → CausedBy end A B (Rose o p)
caused_both begun End A B o o' p old up more by = tt
caused_both begun (Torn at) A B o o' p old up more by = tt
caused_both begun (BadFrame at size) A B o o' p old up more by = tt
caused_both begun ReadFault A B o o' p old up more by = subst (λ (e : LineEnd). CausedBy e A B (Rose o o')) by old
caused_both begun WordFault A B o o' p old up more by = subst (λ (e : LineEnd). CausedBy e A B (Rose o o')) by old
caused_both begun Flood A B o o' p old up more by = tt
caused_both begun NoMemory A B o o' p old up more by = tt
caused_both begun Stopped A B o o' p old up more by = tt
caused_both begun WriteFault A B o o' p old up more (inl is) = rose_until o o' p (subst (λ (e : LineEnd). CausedBy e A B (Rose o o')) is old) more
caused_both begun WriteFault A B o o' p old up more (inr rose) = rose_since o o' p up rose
