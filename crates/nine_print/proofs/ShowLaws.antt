-- The lines of a stream's frames, frame by frame and piece by piece, and what a showing has written where it ends.
use Rattle.std.proofs.Common.{◌≡◌, ℕ, ◌+◌, ◌-◌, ◌<◌, ◌≤◌, List, [], ◌∷◌, ◌++◌, length, Option, Ok, Err, refl, sym, ap, subst, ◌∙◌, append_assoc, append-nil, length-append, inl, inr, arith}
use Rattle.std.specs.Prelude.{Bool, Result, OnOk, IfErr}
use Rattle.std.specs.List.{concat}
use Rattle.std.specs.Io.KnownBytes.{Consumes, IsAtEnd}
use Rattle.std.proofs.KnownBytes.{Consumes-nil, Consumes-trans}
use Rattle.wire_streams.specs.Streams.{Gains}
use Rattle.wire_streams.specs.Whole.{GainsFront}
use Rattle.wire_streams.proofs.StreamLemmas.{Gains-nil, Gains-trans}
use Rattle.nine.specs.Streams.{front, IsBad, IsShort, frames, end_of, HasNoBadSize, IsFrames}
use Rattle.nine.specs.Framed.{Framing}
use Rattle.nine.specs.Framing.{HasHandedOut, Answers}
use Rattle.nine.specs.declared.framer.Next.TheVariants.{Whole, NotYet, BadSize as BadNext}
use Rattle.nine.proofs.StreamLaws.{continues, more_frames, front_none, handed_then, length_fed, no_frames, behind_frames, all_frames}
use Rattle.nine_print.specs.declared.stream.ShowEnd.{ShowEnd}
use Rattle.nine_print.specs.declared.stream.ShowEnd.TheVariants.{Fine, ReadFault, WriteFault, BadSize, Torn, NoMemory, Flood}
use Rattle.nine_print.specs.declared.stream.Showing.{Showing}
use Rattle.nine_print.specs.Lines.{line_of, bad_size_line, torn_line}
use Rattle.nine_print.specs.Shown.{most_frame, most_input, lines_from, lines_of, frames_in, IsBadText, IsTornText, Shows}
use Rattle.nine_print.specs.Showing.{Handed, AllHanded, IsSome, StopsAt, CutsAt, Told, Shown}

module _ (secrets : Bool) where
  -- ---- lines

  -- the lines of frames, and of others behind them
  lines_append : (at : ℕ) (some others : List (List ℕ)) → lines_from secrets at (some ++ others) ≡ lines_from secrets at some ++ lines_from secrets (at + length (concat some)) others
  lines_append at [] others = let e : at ≡ at + 0 = omega arith in ap (λ (n : ℕ). lines_from secrets n others) e
  lines_append at (frame ∷ some) others =
      let e : (at + length frame) + length (concat some) ≡ at + length (frame ++ concat some) = omega (arith, length-append frame (concat some)) in
      ap (λ (t : List ℕ). line_of secrets at frame ++ t) (lines_append (at + length frame) some others)
      ∙ sym (append_assoc (line_of secrets at frame) (lines_from secrets (at + length frame) some) (lines_from secrets ((at + length frame) + length (concat some)) others))
      ∙ ap (λ (n : ℕ). (line_of secrets at frame ++ lines_from secrets (at + length frame) some) ++ lines_from secrets n others) e

  -- and of one more
  line_last : (handed : List (List ℕ)) (frame : List ℕ) (at : ℕ) → at ≡ length (concat handed) → lines_of secrets (handed ++ frame ∷ []) ≡ lines_of secrets handed ++ line_of secrets at frame
  line_last handed frame at is =
      let place : 0 + length (concat handed) ≡ at = omega (arith, is) in
      lines_append 0 handed (frame ∷ [])
      ∙ ap (λ (t : List ℕ). lines_of secrets handed ++ t) (append-nil (line_of secrets (0 + length (concat handed)) frame))
      ∙ ap (λ (n : ℕ). lines_of secrets handed ++ line_of secrets n frame) place

  -- ---- one frame more

  pub handed_more : (so_far stream : List ℕ) (handed : List (List ℕ)) (old new : Framing) (lines later frame : List ℕ) → Handed secrets so_far stream handed old lines → Answers old new (Whole frame) → later ≡ lines ++ line_of secrets old.before frame → Handed secrets so_far stream (handed ++ frame ∷ []) new later
  handed_more so_far stream handed old new lines later frame h a is =
      let line = line_of secrets old.before frame in
      record {
        cut = (continues old new (Whole frame) a stream handed h.cut).1;
        limit = a.2.limit ∙ h.limit;
        text = ap (λ (t : List ℕ). so_far ++ t) is ∙ sym (append_assoc so_far lines line) ∙ ap (λ (t : List ℕ). t ++ line) h.text ∙ sym (line_last handed frame old.before h.cut.place);
      }

  -- there is no frame more
  pub handed_all : (so_far stream : List ℕ) (handed : List (List ℕ)) (old new : Framing) (lines : List ℕ) → Handed secrets so_far stream handed old lines → Answers old new NotYet → AllHanded secrets so_far stream new lines
  handed_all so_far stream handed old new lines h a =
      let all : frames_in stream ≡ handed = ap (λ (limit : ℕ). frames limit stream) (sym h.limit) ∙ continues old new NotYet a stream handed h.cut in
      record {
        all = subst (λ (f : Framing). Handed secrets so_far stream (frames_in stream) f lines) (sym a.1) (subst (λ (fs : List (List ℕ)). Handed secrets so_far stream fs old lines) (sym all) h);
        short = ap (λ (f : Framing). front most_frame f.held) a.1 ∙ ap (λ (limit : ℕ). front limit old.held) (sym h.limit) ∙ a.0;
      }

  -- and nothing has changed
  pub handed_kept : (so_far stream : List ℕ) (handed : List (List ℕ)) (old new : Framing) (lines : List ℕ) → Handed secrets so_far stream handed old lines → Answers old new NotYet → Handed secrets so_far stream handed new lines
  handed_kept so_far stream handed old new lines h a = subst (λ (f : Framing). Handed secrets so_far stream handed f lines) (sym a.1) h

  -- a bad size stands behind the frames
  pub meets_bad : (so_far stream : List ℕ) (handed : List (List ℕ)) (old new : Framing) (at size : ℕ) (lines later : List ℕ) → Handed secrets so_far stream handed old lines → Answers old new (BadNext at size) → later ≡ lines ++ bad_size_line at size → IsBadText secrets stream (so_far ++ later)
  meets_bad so_far stream handed old new at size lines later h a is =
      let c = continues old new (BadNext at size) a stream handed h.cut in
      let all : frames_in stream ≡ handed = ap (λ (limit : ℕ). frames limit stream) (sym h.limit) ∙ c.0 in
      let cut : HasHandedOut old stream (frames_in stream) = subst (HasHandedOut old stream) (sym all) h.cut in
      let place : at ≡ end_of most_frame stream = a.1 ∙ cut.place in
      record {
        size = size;
        bad = behind_frames most_frame old stream (IsBad size) cut (ap (λ (limit : ℕ). front limit old.held) (sym h.limit) ∙ a.0);
        lines = ap (λ (t : List ℕ). so_far ++ t) is ∙ sym (append_assoc so_far lines (bad_size_line at size)) ∙ ap (λ (t : List ℕ). t ++ bad_size_line at size) (h.text ∙ ap (lines_of secrets) (sym all)) ∙ ap (λ (n : ℕ). lines_of secrets (frames_in stream) ++ bad_size_line n size) place;
      }

  -- no more than these were shown
  pub handed_some : (so_far stream : List ℕ) (handed : List (List ℕ)) (f : Framing) (lines later : List ℕ) → Handed secrets so_far stream handed f lines → later ≡ lines → IsSome secrets stream (so_far ++ later)
  handed_some so_far stream handed f lines later h is = record {
    some = handed;
    others = frames most_frame f.held;
    parts = ap (frames most_frame) h.cut.parts ∙ handed_then most_frame handed f.held (rw h.limit at h.cut.each);
    lines = ap (λ (t : List ℕ). so_far ++ t) is ∙ h.text;
  }

  -- ---- a piece more

  pub fed : (so_far stream piece : List ℕ) (old new : Framing) (lines : List ℕ) → AllHanded secrets so_far stream old lines → new ≡ record { limit = old.limit; before = old.before; held = old.held ++ piece }
      → HasHandedOut new (stream ++ piece) (frames_in stream) → Handed secrets so_far (stream ++ piece) (frames_in stream) new lines
  fed so_far stream piece old new lines h is cut = record { cut = cut; limit = ap (λ (f : Framing). f.limit) is ∙ h.all.limit; text = h.all.text }

  pub unfed : (so_far stream piece : List ℕ) (f : Framing) (lines : List ℕ) → AllHanded secrets so_far stream f lines → IsSome secrets (stream ++ piece) (so_far ++ lines)
  unfed so_far stream piece f lines h =
      let more = more_frames most_frame stream piece in
      record { some = frames_in stream; others = more.0; parts = more.1; lines = h.all.text }

  -- ---- the lines are written

  pub told_more : (origin before after : Option (List ℕ)) (so_far stream : List ℕ) (framer : Framing) (lines later : List ℕ) → Gains origin before so_far → AllHanded secrets so_far stream framer lines → Gains before after lines → later ≡ [] → Told secrets origin after stream framer later
  told_more origin before after so_far stream framer lines later g h w none = record {
    handed = record {
      all = record { cut = h.all.cut; limit = h.all.limit; text = ap (λ (t : List ℕ). lines_of secrets (frames_in stream) ++ t) none ∙ append-nil (lines_of secrets (frames_in stream)) };
      short = h.short;
    };
    none = none;
    written = subst (Gains origin after) h.all.text (Gains-trans origin before after so_far lines g w);
  }

  pub stop_cuts : (end : ShowEnd) (left origin before after : Option (List ℕ)) (so_far stream lines : List ℕ) → Gains origin before so_far → StopsAt secrets end stream (so_far ++ lines) → Gains before after lines → CutsAt secrets end left origin after stream
  stop_cuts Fine left origin before after so_far stream lines g s w = absurd s
  stop_cuts ReadFault left origin before after so_far stream lines g s w = absurd s
  stop_cuts WriteFault left origin before after so_far stream lines g s w = absurd s
  stop_cuts BadSize left origin before after so_far stream lines g s w = (so_far ++ lines, s, Gains-trans origin before after so_far lines g w)
  stop_cuts Torn left origin before after so_far stream lines g s w = absurd s
  stop_cuts NoMemory left origin before after so_far stream lines g s w = record { some = s.some; others = s.others; parts = s.parts; written = subst (Gains origin after) s.lines (Gains-trans origin before after so_far lines g w) }
  stop_cuts Flood left origin before after so_far stream lines g s w = absurd s

  front_behind : (a b c : Option (List ℕ)) (xs ys : List ℕ) → Gains a b xs → GainsFront b c ys → GainsFront a c (xs ++ ys)
  front_behind a b c xs ys g p = record {
    front = xs ++ p.front;
    rest = p.rest;
    parts = ap (λ (t : List ℕ). xs ++ t) p.parts ∙ sym (append_assoc xs p.front p.rest);
    gained = Gains-trans a b c xs p.front g p.gained;
    missing = p.missing;
  }

  front_longer : (a b : Option (List ℕ)) (text longer more : List ℕ) → longer ≡ text ++ more → GainsFront a b text → GainsFront a b longer
  front_longer a b text longer more is p = record {
    front = p.front;
    rest = p.rest ++ more;
    parts = is ∙ ap (λ (t : List ℕ). t ++ more) p.parts ∙ append_assoc p.front p.rest more;
    gained = p.gained;
    missing = omega (arith, p.missing, length-append p.rest more);
  }

  some_longer : (stream text : List ℕ) → (s : IsSome secrets stream text) → lines_of secrets (frames_in stream) ≡ text ++ lines_from secrets (0 + length (concat s.some)) s.others
  some_longer stream text s = ap (lines_of secrets) s.parts ∙ lines_append 0 s.some s.others ∙ ap (λ (t : List ℕ). t ++ lines_from secrets (0 + length (concat s.some)) s.others) (sym s.lines)

  stop_writes : (end : ShowEnd) (left origin before after : Option (List ℕ)) (so_far stream lines : List ℕ) → Gains origin before so_far → GainsFront before after lines → StopsAt secrets end stream (so_far ++ lines) → CutsAt secrets WriteFault left origin after stream
  stop_writes Fine left origin before after so_far stream lines g p s = absurd s
  stop_writes ReadFault left origin before after so_far stream lines g p s = absurd s
  stop_writes WriteFault left origin before after so_far stream lines g p s = absurd s
  stop_writes BadSize left origin before after so_far stream lines g p s = (so_far ++ lines, inr (inl s), front_behind origin before after so_far lines g p)
  stop_writes Torn left origin before after so_far stream lines g p s = absurd s
  stop_writes NoMemory left origin before after so_far stream lines g p s =
      (lines_of secrets (frames_in stream), inl refl, front_longer origin after (so_far ++ lines) (lines_of secrets (frames_in stream)) (lines_from secrets (0 + length (concat s.some)) s.others) (some_longer stream (so_far ++ lines) s) (front_behind origin before after so_far lines g p))
  stop_writes Flood left origin before after so_far stream lines g p s = absurd s

  -- a write failed, whether or not all frames were shown
  pub write_cuts : {A : Type 0} (done : Result A ShowEnd) (left origin before after : Option (List ℕ)) (so_far stream : List ℕ) (framer : Framing) (lines : List ℕ) → Gains origin before so_far → GainsFront before after lines
      → OnOk done (AllHanded secrets so_far stream framer lines) → IfErr done (λ end. StopsAt secrets end stream (so_far ++ lines)) → CutsAt secrets WriteFault left origin after stream
  write_cuts (Ok x) left origin before after so_far stream framer lines g p ok err = (so_far ++ lines, inl ok.all.text, front_behind origin before after so_far lines g p)
  write_cuts (Err end) left origin before after so_far stream framer lines g p ok err = stop_writes end left origin before after so_far stream lines g p err

  -- ---- what ends a showing

  pub cut_shows : (end : ShowEnd) (first left origin held : Option (List ℕ)) (input : List ℕ) → Consumes first left input → length input ≤ most_input → CutsAt secrets end left origin held input → Shows secrets end first left origin held
  cut_shows Fine first left origin held input read few cut = absurd cut
  cut_shows ReadFault first left origin held input read few cut = absurd cut
  cut_shows WriteFault first left origin held input read few cut = record { input = input; read = read; flood = (λ e. absurd (cc), λ over. absurd (omega (arith, few, over))); ends = cut }
  cut_shows BadSize first left origin held input read few cut = record { input = input; read = read; flood = (λ e. absurd (cc), λ over. absurd (omega (arith, few, over))); ends = cut }
  cut_shows Torn first left origin held input read few cut = absurd cut
  cut_shows NoMemory first left origin held input read few cut = record { input = input; read = read; flood = (λ e. absurd (cc), λ over. absurd (omega (arith, few, over))); ends = cut }
  cut_shows Flood first left origin held input read few cut = absurd cut

  pub taken_there : (first now origin held : Option (List ℕ)) (showing : Showing) → (s : Shown secrets first now origin held showing) → length s.stream ≡ showing.framer.before + length showing.framer.held
  taken_there first now origin held showing s = length_fed showing.framer s.stream (frames_in s.stream) s.told.handed.all.cut

  pub no_bad_there : (first now origin held : Option (List ℕ)) (showing : Showing) → (s : Shown secrets first now origin held showing) → HasNoBadSize most_frame s.stream
  no_bad_there first now origin held showing s = behind_frames most_frame showing.framer s.stream IsShort s.told.handed.all.cut s.told.handed.short

  pub read_fails : (first now next origin held : Option (List ℕ)) (showing : Showing) → Shown secrets first now origin held showing → next ≡ now → Shows secrets ReadFault first next origin held
  read_fails first now next origin held showing s keeps = record {
    input = s.stream;
    read = subst (λ (left : Option (List ℕ)). Consumes first left s.stream) (sym keeps) s.read;
    flood = (λ e. absurd (cc), λ over. absurd (omega (arith, s.few, over)));
    ends = (no_bad_there first now origin held showing s, s.told.written);
  }

  pub floods : (first now next origin held : Option (List ℕ)) (showing : Showing) (taken : List ℕ) → (s : Shown secrets first now origin held showing) → Consumes now next taken → most_input < length (s.stream ++ taken) → Shows secrets Flood first next origin held
  floods first now next origin held showing taken s more over =
      let others = more_frames most_frame s.stream taken in
      record {
        input = s.stream ++ taken;
        read = Consumes-trans first now next s.stream taken s.read more;
        flood = (λ e. over, λ e. refl);
        ends = record { some = frames_in s.stream; others = others.0; parts = others.1; written = s.told.written };
      }

  pub shown_more : (first now next origin held : Option (List ℕ)) (old new : Showing) (taken : List ℕ) → (s : Shown secrets first now origin held old) → Consumes now next taken → length (s.stream ++ taken) ≤ most_input → (after : Option (List ℕ)) → Told secrets origin after (s.stream ++ taken) new.framer new.lines → Shown secrets first next origin after new
  shown_more first now next origin held old new taken s more few after told = record { stream = s.stream ++ taken; read = Consumes-trans first now next s.stream taken s.read more; few = few; told = told }

  -- ---- the end of the input

  pub fine_end : (first now origin held : Option (List ℕ)) (showing : Showing) → Shown secrets first now origin held showing → IsAtEnd now → length showing.framer.held ≡ 0 → Shows secrets Fine first now origin held
  fine_end first now origin held showing s end none =
      let fs = frames_in s.stream in
      let whole : IsFrames most_frame s.stream = all_frames most_frame showing.framer s.stream s.told.handed.all.cut (λ some. omega (arith, some, none)) in
      record {
        input = s.stream;
        read = s.read;
        flood = (λ e. absurd (cc), λ over. absurd (omega (arith, s.few, over)));
        ends = (end, (lines_of secrets fs, record { whole = whole; lines = refl }, s.told.written));
      }

  pub memory_end : (first now origin held : Option (List ℕ)) (showing : Showing) → Shown secrets first now origin held showing → Shows secrets NoMemory first now origin held
  memory_end first now origin held showing s = record {
    input = s.stream;
    read = s.read;
    flood = (λ e. absurd (cc), λ over. absurd (omega (arith, s.few, over)));
    ends = record { some = frames_in s.stream; others = []; parts = sym (append-nil (frames_in s.stream)); written = s.told.written };
  }

  torn_text : (first now origin held : Option (List ℕ)) (showing : Showing) (later : List ℕ) → (s : Shown secrets first now origin held showing) → 0 < length showing.framer.held → later ≡ showing.lines ++ torn_line showing.framer.before (length showing.framer.held) → IsTornText secrets s.stream (lines_of secrets (frames_in s.stream) ++ later)
  torn_text first now origin held showing later s some is =
      let place : showing.framer.before ≡ end_of most_frame s.stream = s.told.handed.all.cut.place in
      let there = taken_there first now origin held showing s in
      let count : length showing.framer.held ≡ length s.stream - end_of most_frame s.stream = omega (arith, place, there) in
      record {
        short = no_bad_there first now origin held showing s;
        inside = omega (arith, some, place, there);
        lines = ap (λ (t : List ℕ). lines_of secrets (frames_in s.stream) ++ t) (is ∙ ap (λ (l : List ℕ). l ++ torn_line showing.framer.before (length showing.framer.held)) s.told.none ∙ ap (λ (at : ℕ). torn_line at (length showing.framer.held)) place ∙ ap (torn_line (end_of most_frame s.stream)) count);
      }

  pub torn_end : (first now origin before after : Option (List ℕ)) (showing : Showing) (later : List ℕ) → Shown secrets first now origin before showing → IsAtEnd now → 0 < length showing.framer.held → later ≡ showing.lines ++ torn_line showing.framer.before (length showing.framer.held) → Gains before after later → Shows secrets Torn first now origin after
  torn_end first now origin before after showing later s end some is w = record {
    input = s.stream;
    read = s.read;
    flood = (λ e. absurd (cc), λ over. absurd (omega (arith, s.few, over)));
    ends = (end, (lines_of secrets (frames_in s.stream) ++ later, torn_text first now origin before showing later s some is, Gains-trans origin before after (lines_of secrets (frames_in s.stream)) later s.told.written w));
  }

  pub write_end : (first now origin before after : Option (List ℕ)) (showing : Showing) (later : List ℕ) → Shown secrets first now origin before showing → IsAtEnd now → 0 < length showing.framer.held → later ≡ showing.lines ++ torn_line showing.framer.before (length showing.framer.held) → GainsFront before after later → Shows secrets WriteFault first now origin after
  write_end first now origin before after showing later s end some is p = record {
    input = s.stream;
    read = s.read;
    flood = (λ e. absurd (cc), λ over. absurd (omega (arith, s.few, over)));
    ends = (lines_of secrets (frames_in s.stream) ++ later, inr (inr (end, torn_text first now origin before showing later s some is)), front_behind origin before after (lines_of secrets (frames_in s.stream)) later s.told.written p);
  }

  -- ---- before the first read

  pub begun : (first origin : Option (List ℕ)) (showing : Showing) → showing.framer ≡ record { limit = most_frame; before = 0; held = [] } → HasHandedOut showing.framer [] [] → showing.lines ≡ [] → Shown secrets first first origin origin showing
  begun first origin showing is cut none = record {
    stream = [];
    read = Consumes-nil first;
    few = omega arith;
    told = record {
      handed = record {
        all = subst (λ (fs : List (List ℕ)). Handed secrets (lines_of secrets fs) [] fs showing.framer showing.lines) (sym (no_frames most_frame)) (record { cut = cut; limit = ap (λ (f : Framing). f.limit) is; text = none });
        short = ap (λ (f : Framing). front most_frame f.held) is ∙ front_none most_frame [] 0 refl;
      };
      none = none;
      written = subst (λ (fs : List (List ℕ)). Gains origin origin (lines_of secrets fs)) (sym (no_frames most_frame)) (Gains-nil origin);
    };
  }
