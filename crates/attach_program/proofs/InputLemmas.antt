-- The frames of a stream, answered one by one, and what is told where that stops.
use Rattle.std.proofs.Common.{◌≡◌, ℕ, ◌+◌, ◌<◌, ◌≤◌, List, [], ◌∷◌, ◌++◌, length, take, length-drop, Option, refl, sym, ap, subst, ◌∙◌, append_assoc, append-nil, length-append, arith}
use Rattle.std.specs.Io.KnownBytes.{Consumes, IsAtEnd, Keeps}
use Rattle.std.proofs.KnownBytes.{Consumes-kept, Consumes-nil, Consumes-trans}
use Rattle.nine.specs.Streams.{front, IsBad, IsShort, IsWhole, frames}
use Rattle.nine.specs.Framed.{Framing, passed, with_more}
use Rattle.nine.specs.Framing.{HasHandedOut, Answers as Gives}
use Rattle.nine.specs.declared.framer.Next.TheVariants.{Whole, NotYet, BadSize}
use Rattle.nine.proofs.StreamLaws.{continues, fed_more, front_none, taken_out, whole_there, length_fed, no_frames, behind_frames, all_frames}
use Rattle.agent_history.specs.Histories.{History}
use Rattle.attach_program.specs.declared.session.Session.{Session}
use Rattle.attach_program.specs.declared.status.AttachStatus.{AttachStatus}
use Rattle.attach_program.specs.declared.status.AttachStatus.TheVariants.{Fine, Usage, ReadFault, WriteFault, WordFault, BadFrame, Torn, BadKeys, NoMemory, Flood}
use Rattle.attach_program.specs.Runs.{Run, Sight, frames_of}
use Rattle.attach_program.specs.Serving.{Answers, AnswersAll, ConnectionEnds, EndsInside, Floods, Reads, frames_in, most_frame, most_input}
use Rattle.attach_program.specs.Steps.{AllHanded, Handed, IsReady, Piped, Served, ServedMore, StandsAt, StopsAt, TurnEnds, taken_by}
use Rattle.attach_program.proofs.TurnLemmas.{goes_none}

-- ---- one frame more

-- the frame that is shown is handed out
pub gives_whole : (old new : Framing) (frame : List ℕ) → front old.limit old.held ≡ IsWhole (length frame) → frame ≡ take (length frame) old.held → new ≡ passed old (length frame) → Gives old new (Whole frame)
gives_whole old new frame whole is dropped = subst (λ (f : Framing). Gives old f (Whole frame)) (sym dropped) (taken_out old (length frame) frame whole is)

-- as many bytes as before were fed, and fewer are held
pub still_fed : (old new : Framing) (size : ℕ) → front old.limit old.held ≡ IsWhole size → new ≡ passed old size → taken_by new ≡ taken_by old
still_fed old new size whole is = subst (λ (f : Framing). f.before + length f.held ≡ old.before + length old.held) (sym is) (omega (arith, whole_there old.limit old.held size whole, length-drop size old.held))

pub fewer_held : (old new : Framing) (size : ℕ) → front old.limit old.held ≡ IsWhole size → 0 < size → new ≡ passed old size → length new.held < length old.held
fewer_held old new size whole some is = subst (λ (f : Framing). length f.held < length old.held) (sym is) (omega (arith, some, whole_there old.limit old.held size whole, length-drop size old.held))

-- the frames of the stream are those that were answered, this one, and others
frames_then : (keys : History) (origin now : Sight) (stream : List ℕ) (run : Run) (old new : Framing) (session : Session) (frame : List ℕ) → Handed keys origin now stream run old session → Gives old new (Whole frame)
    → (others : List (List ℕ)) × (frames_in stream ≡ frames_of run ++ frame ∷ others)
frames_then keys origin now stream run old new session frame h a =
    let c = continues old new (Whole frame) a stream (frames_of run) h.cut in
    (frames old.limit new.held, ap (λ (limit : ℕ). frames limit stream) (sym h.limit) ∙ c.0)

pub handed_more : (keys : History) (origin before after : Sight) (stream : List ℕ) (run : Run) (old new : Framing) (session later : Session) (frame : List ℕ) → Handed keys origin before stream run old session → Gives old new (Whole frame)
    → (m : ServedMore keys origin after run frame later) → Handed keys origin after stream (m.turn ∷ run) new later
handed_more keys origin before after stream run old new session later frame h a m = record {
  cut = subst (λ (f : List ℕ). HasHandedOut new stream (frames_of run ++ f ∷ [])) (sym m.frame_is) (continues old new (Whole frame) a stream (frames_of run) h.cut).1;
  limit = a.2.limit ∙ h.limit;
  served = m.served;
}

-- a frame wasn't answered, or its reply wasn't written
pub stops_in_frame : (status : AttachStatus) (keys : History) (origin before after : Sight) (stream : List ℕ) (run : Run) (old new : Framing) (session : Session) (frame : List ℕ) → Handed keys origin before stream run old session → Gives old new (Whole frame)
    → TurnEnds status keys origin after run frame → StopsAt status keys origin after stream
stops_in_frame Fine keys origin before after stream run old new session frame h a e = absurd e
stops_in_frame Usage keys origin before after stream run old new session frame h a e = absurd e
stops_in_frame ReadFault keys origin before after stream run old new session frame h a e = absurd e
stops_in_frame WriteFault keys origin before after stream run old new session frame h a e =
    let others = frames_then keys origin before stream run old new session frame h a in
    record { run = run; frame = frame; others = others.0; parts = others.1; loses = e }
stops_in_frame WordFault keys origin before after stream run old new session frame h a e =
    let others = frames_then keys origin before stream run old new session frame h a in
    record { front = frames_of run; frame = frame; others = others.0; parts = others.1; answers = record { run = run; are = refl; is = e.0; goes = e.1 } }
stops_in_frame (BadFrame at size) keys origin before after stream run old new session frame h a e = absurd e
stops_in_frame (Torn at) keys origin before after stream run old new session frame h a e = absurd e
stops_in_frame (BadKeys line) keys origin before after stream run old new session frame h a e = absurd e
stops_in_frame NoMemory keys origin before after stream run old new session frame h a e =
    let others = frames_then keys origin before stream run old new session frame h a in
    record { run = run; others = frame ∷ others.0; parts = others.1; lacks = e }
stops_in_frame (Flood limit) keys origin before after stream run old new session frame h a e = absurd e

-- there is no frame more
pub handed_all : (keys : History) (origin now : Sight) (stream : List ℕ) (run : Run) (old new : Framing) (session : Session) → Handed keys origin now stream run old session → Gives old new NotYet → AllHanded keys origin now stream new session
handed_all keys origin now stream run old new session h a =
    let all : frames_in stream ≡ frames_of run = ap (λ (limit : ℕ). frames limit stream) (sym h.limit) ∙ continues old new NotYet a stream (frames_of run) h.cut in
    record {
      run = run;
      are = sym all;
      handed = subst (λ (f : Framing). Handed keys origin now stream run f session) (sym a.1) h;
      short = ap (λ (f : Framing). front most_frame f.held) a.1 ∙ ap (λ (limit : ℕ). front limit old.held) (sym h.limit) ∙ a.0;
    }

answered_of : (keys : History) (origin now : Sight) (frames : List (List ℕ)) (run : Run) (session : Session) → frames_of run ≡ frames → Served keys origin now run session → Answers keys frames origin now
answered_of keys origin now frames run session are s = record { run = run; are = are; is = s.stands.is; goes = s.goes }

pub all_answered : (keys : History) (origin now : Sight) (stream : List ℕ) (f : Framing) (session : Session) → AllHanded keys origin now stream f session → Answers keys (frames_in stream) origin now
all_answered keys origin now stream f session h = answered_of keys origin now (frames_in stream) h.run session h.are h.handed.served

-- a bad size stands there
pub stops_bad : (keys : History) (origin now : Sight) (stream : List ℕ) (run : Run) (f : Framing) (session : Session) (at size : ℕ) → Handed keys origin now stream run f session → front f.limit f.held ≡ IsBad size → at ≡ f.before → StopsAt (BadFrame at size) keys origin now stream
stops_bad keys origin now stream run f session at size h bad place =
    let c = continues f f (BadSize at size) (bad, place, refl) stream (frames_of run) h.cut in
    let all : frames_in stream ≡ frames_of run = ap (λ (limit : ℕ). frames limit stream) (sym h.limit) ∙ c.0 in
    let cut : HasHandedOut f stream (frames_in stream) = subst (HasHandedOut f stream) (sym all) h.cut in
    record {
      place = place ∙ cut.place;
      bad = behind_frames most_frame f stream (IsBad size) cut (ap (λ (limit : ℕ). front limit f.held) (sym h.limit) ∙ bad);
      answers = answered_of keys origin now (frames_in stream) run session (sym all) h.served;
    }

-- ---- a piece more

pub fed : (keys : History) (origin now : Sight) (stream piece : List ℕ) (old new : Framing) (session : Session) → (h : AllHanded keys origin now stream old session) → new ≡ with_more old piece
    → Handed keys origin now (stream ++ piece) h.run new session
fed keys origin now stream piece old new session h is = record { cut = fed_more old new stream piece (frames_of h.run) h.handed.cut is; limit = ap (λ (f : Framing). f.limit) is ∙ h.handed.limit; served = h.handed.served }

-- ---- the end

-- nothing was read behind the input
pub reads_all : (first now : Option (List ℕ)) (input : List ℕ) → Consumes first now input → length input ≤ most_input → Reads first now input []
reads_all first now input taken few = record { taken = subst (Consumes first now) (sym (append-nil input)) taken; bounded = few; full = λ some. absurd (omega (arith, some)) }

-- what stops an answer is the end of the connection
stop_ends : (status : AttachStatus) (keys : History) (first next : Option (List ℕ)) (origin now : Sight) (input : List ℕ) → Reads first next input [] → StopsAt status keys origin now input → ConnectionEnds keys status first next origin now
stop_ends Fine keys first next origin now input r s = absurd s
stop_ends Usage keys first next origin now input r s = absurd s
stop_ends ReadFault keys first next origin now input r s = absurd s
stop_ends WriteFault keys first next origin now input r s = record {
  input = input;
  read = r;
  run = s.loses.turn ∷ s.run;
  others = s.others;
  parts = s.parts ∙ sym (append_assoc (frames_of s.run) (s.frame ∷ []) s.others) ∙ ap (λ (f : List ℕ). (frames_of s.run ++ f ∷ []) ++ s.others) (sym s.loses.frame_is);
  is = s.loses.is;
  drew = s.loses.drew;
  wrote = s.loses.wrote;
  told = s.loses.told;
}
stop_ends WordFault keys first next origin now input r s = record { input = input; read = r; front = s.front; frame = s.frame; others = s.others; parts = s.parts; answers = s.answers }
stop_ends (BadFrame at size) keys first next origin now input r s = record { input = input; read = r; place = s.place; bad = s.bad; answers = s.answers }
stop_ends (Torn at) keys first next origin now input r s = absurd s
stop_ends (BadKeys line) keys first next origin now input r s = absurd s
stop_ends NoMemory keys first next origin now input r s = record { input = input; read = r; run = s.run; others = s.others; parts = s.parts; is = s.lacks.is; more = s.lacks.more; one = s.lacks.one; moves = s.lacks.moves }
stop_ends (Flood limit) keys first next origin now input r s = absurd s

pub taken_there : (keys : History) (first next : Option (List ℕ)) (origin now : Sight) (framer : Framing) (session : Session) → (p : Piped keys first next origin now framer session) → length p.stream ≡ taken_by framer
taken_there keys first next origin now framer session p = length_fed framer p.stream (frames_of p.handed.run) p.handed.handed.cut

-- all frames of the stream were cut off
all_cut : (keys : History) (origin now : Sight) (stream : List ℕ) (f : Framing) (session : Session) → AllHanded keys origin now stream f session → HasHandedOut f stream (frames_in stream)
all_cut keys origin now stream f session h = subst (HasHandedOut f stream) h.are h.handed.cut

-- the input ends
pub torn : (keys : History) (first next : Option (List ℕ)) (origin now : Sight) (framer : Framing) (session : Session) → Piped keys first next origin now framer session → IsAtEnd next → 0 < length framer.held → EndsInside framer.before keys first next origin now
torn keys first next origin now framer session p end some =
    let cut = all_cut keys origin now p.stream framer session p.handed in
    record {
      input = p.stream;
      read = reads_all first next p.stream p.read p.few;
      at_end = end;
      place = cut.place;
      inside = omega (arith, some, taken_there keys first next origin now framer session p);
      short = behind_frames most_frame framer p.stream IsShort cut p.handed.short;
      answers = all_answered keys origin now p.stream framer session p.handed;
    }

pub answered : (keys : History) (first next : Option (List ℕ)) (origin now : Sight) (framer : Framing) (session : Session) → Piped keys first next origin now framer session → IsAtEnd next → (0 < length framer.held → ⊥) → AnswersAll keys first next origin now
answered keys first next origin now framer session p end none = record {
  input = p.stream;
  read = reads_all first next p.stream p.read p.few;
  at_end = end;
  whole = all_frames most_frame framer p.stream (all_cut keys origin now p.stream framer session p.handed) none;
  answers = all_answered keys origin now p.stream framer session p.handed;
}

-- the input may go on, where it has no bad size so far
pub read_so_far : (keys : History) (first next : Option (List ℕ)) (origin now : Sight) (framer : Framing) (session : Session) → Piped keys first next origin now framer session → ConnectionEnds keys ReadFault first next origin now
read_so_far keys first next origin now framer session p = record {
  input = p.stream;
  read = reads_all first next p.stream p.read p.few;
  short = behind_frames most_frame framer p.stream IsShort (all_cut keys origin now p.stream framer session p.handed) p.handed.short;
  answers = all_answered keys origin now p.stream framer session p.handed;
}

-- ---- before the first read

pub begun : (keys : History) (first : Option (List ℕ)) (origin : Sight) (framer : Framing) (session : Session) → StandsAt keys [] session → framer ≡ record { limit = most_frame; before = 0; held = [] } → HasHandedOut framer [] [] → Piped keys first first origin origin framer session
begun keys first origin framer session stands is cut = record {
  stream = [];
  read = Consumes-nil first;
  few = omega arith;
  handed = record {
    run = [];
    are = sym (no_frames most_frame);
    handed = record { cut = cut; limit = ap (λ (f : Framing). f.limit) is; served = record { stands = stands; goes = goes_none origin } };
    short = ap (λ (f : Framing). front most_frame f.held) is ∙ front_none most_frame [] 0 refl;
  };
}

-- ---- what one read gave

-- nothing, and all stays
pub piped_still : (keys : History) (first next later : Option (List ℕ)) (origin now : Sight) (old new : Framing) (session : Session) → Piped keys first next origin now old session → Keeps next later → new ≡ old → Piped keys first later origin now new session
piped_still keys first next later origin now old new session p kept is = record {
  stream = p.stream;
  read = Consumes-kept first next later p.stream p.read kept;
  few = p.few;
  handed = subst (λ (f : Framing). AllHanded keys origin now p.stream f session) (sym is) p.handed;
}

-- a piece, whose frames were answered
pub piped_more : (keys : History) (first next later : Option (List ℕ)) (origin before after : Sight) (old new : Framing) (session later_session : Session) (piece : List ℕ) → (p : Piped keys first next origin before old session) → Consumes next later piece → taken_by old + length piece ≤ most_input
    → AllHanded keys origin after (p.stream ++ piece) new later_session → Piped keys first later origin after new later_session
piped_more keys first next later origin before after old new session later_session piece p more few h = record {
  stream = p.stream ++ piece;
  read = Consumes-trans first next later p.stream piece p.read more;
  few = omega (arith, few, length-append p.stream piece, taken_there keys first next origin before old session p);
  handed = h;
}

-- a piece, whose frames weren't all answered
pub stops_more : (status : AttachStatus) (keys : History) (first next later : Option (List ℕ)) (origin before now : Sight) (framer : Framing) (session : Session) (piece : List ℕ) → (p : Piped keys first next origin before framer session) → Consumes next later piece → taken_by framer + length piece ≤ most_input
    → StopsAt status keys origin now (p.stream ++ piece) → ConnectionEnds keys status first later origin now
stops_more status keys first next later origin before now framer session piece p more few s =
    stop_ends status keys first later origin now (p.stream ++ piece)
    (reads_all first later (p.stream ++ piece) (Consumes-trans first next later p.stream piece p.read more) (omega (arith, few, length-append p.stream piece, taken_there keys first next origin before framer session p))) s

-- more came than is taken
pub floods : (keys : History) (first next later : Option (List ℕ)) (origin now : Sight) (framer : Framing) (session : Session) (piece : List ℕ) → Piped keys first next origin now framer session → taken_by framer ≡ most_input → Consumes next later piece → 0 < length piece → Floods keys first later origin now
floods keys first next later origin now framer session piece p full more some = record {
  input = p.stream;
  behind = piece;
  read = record { taken = Consumes-trans first next later p.stream piece p.read more; bounded = p.few; full = λ _. taken_there keys first next origin now framer session p ∙ full };
  over = some;
  short = behind_frames most_frame framer p.stream IsShort (all_cut keys origin now p.stream framer session p.handed) p.handed.short;
  answers = all_answered keys origin now p.stream framer session p.handed;
}

-- ---- a framer can read on

pub ready_still : (old new : Framing) → new ≡ old → IsReady old → IsReady new
ready_still old new is r = subst IsReady (sym is) r

pub begun_ready : (framer : Framing) → framer ≡ record { limit = most_frame; before = 0; held = [] } → IsReady framer
begun_ready framer is = record {
  short = subst (λ (f : Framing). front f.limit f.held ≡ IsShort) (sym is) (front_none most_frame [] 0 refl);
  few = subst (λ (f : Framing). f.before + length f.held ≤ most_input) (sym is) (omega arith);
}

pub fed_length : (old new : Framing) (piece : List ℕ) → new ≡ with_more old piece → taken_by new ≡ taken_by old + length piece
fed_length old new piece is = subst (λ (f : Framing). f.before + length f.held ≡ old.before + length old.held + length piece) (sym is) (omega (arith, length-append old.held piece))

-- memory ran out before the first read
pub memory_first : (keys : History) (first : Option (List ℕ)) (origin : Sight) → ConnectionEnds keys NoMemory first first origin origin
memory_first keys first origin =
    let none = goes_none origin in
    record {
      input = [];
      read = reads_all first first [] (Consumes-nil first) (omega arith);
      run = [];
      others = [];
      parts = no_frames most_frame;
      is = tt;
      more = [];
      one = omega arith;
      moves = none;
    }
