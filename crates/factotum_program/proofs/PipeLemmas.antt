-- The frames of a stream, answered one by one, and what a pipe has written where it stops.
use Rattle.std.proofs.Common.{◌≡◌, ℕ, ◌+◌, ◌<◌, ◌≤◌, List, [], ◌∷◌, ◌++◌, length, take, drop, take-append-drop, length-drop, Option, true, refl, sym, ap, subst, ◌∙◌, append_assoc, append-nil, length-append, inl, inr, arith}
use Rattle.std.specs.Prelude.{Result, Ok, Err, OnOk, IfErr}
use Rattle.std.specs.Io.KnownBytes.{Consumes, IsAtEnd, Keeps}
use Rattle.std.proofs.KnownBytes.{Consumes-kept, Consumes-nil, Consumes-trans}
use Rattle.std.proofs.lemmas.List.{take-take, length-take-le}
use Rattle.wire_streams.specs.Streams.{Gains}
use Rattle.nine.specs.Streams.{front, IsBad, IsShort, IsWhole, frames}
use Rattle.nine.specs.Framed.{Framing, passed, with_more}
use Rattle.nine.specs.Framing.{HasHandedOut, Answers as Gives}
use Rattle.nine.specs.declared.framer.Next.TheVariants.{Whole, NotYet, BadSize}
use Rattle.nine.proofs.StreamLaws.{continues, fed_more, front_none, taken_out, whole_there, length_fed, no_frames, behind_frames, all_frames}
use Rattle.auth_server.specs.Sessions.{DrawsAll}
use Rattle.agent_history.specs.Histories.{History}
use Rattle.agent_core.specs.declared.agent.Agent.{Agent}
use Rattle.agent_core.specs.Agents.{StandsFor}
use Rattle.auth_program.specs.declared.status.Status.{Status}
use Rattle.auth_program.specs.declared.status.Status.TheVariants.{Fine, Usage, ReadFault, WriteFault, WordFault, BadFrame, Torn, BadScript, BadTables, AsEnded, NoMemory, Flood}
use Rattle.factotum_program.specs.declared.pipe.Session.{Session}
use Rattle.factotum_program.specs.Pipe.{Turn, after_turn, after_turns, frames_of, most_frame, replies_text, text_of, turn_of}
use Rattle.factotum_program.specs.Sights.{GoesPart, Sight, sight}
use Rattle.factotum_program.specs.Commands.{most_input, frames_in, Reads, Answers, EndsInside, Floods, GainsPart, EndsSo, Replies, RepliesPart}
use Rattle.factotum_program.specs.Gathers.{Gathers, GathersPart}
use Rattle.factotum_program.specs.Asks.{Turns, TurnsPart}
use Rattle.factotum_program.specs.Sessions.{IsReady, taken_by, Handed, AllHanded, StopsAt, IsCut, IsCutShort, MissesWord, Piped, Told, ToldPart}
use Rattle.factotum_program.proofs.TurnLemmas.{after_one, all_met_one, frames_one, goes_none, goes_on, goes_one, goes_one_part, goes_part, goes_part_on, goes_still}
use Rattle.factotum_program.proofs.PartLemmas.{gathers_none, gathers_gone, gathers_failed, all_written, part_memory, part_gone, part_failed, part_written}

-- a sight with these bytes written
abbrev holding : Sight → Option (List ℕ) → Sight
holding now holds = sight now.words now.dialed holds

-- ---- one frame more

-- the frame that is shown is handed out
pub gives_whole : (old new : Framing) (frame : List ℕ) → front old.limit old.held ≡ IsWhole (length frame) → frame ≡ take (length frame) old.held → new ≡ passed old (length frame) → Gives old new (Whole frame)
gives_whole old new frame whole is dropped = subst (λ (f : Framing). Gives old f (Whole frame)) (sym dropped) (taken_out old (length frame) frame whole is)

-- as many bytes as before were fed, and fewer are held
pub still_fed : (old new : Framing) (size : ℕ) → front old.limit old.held ≡ IsWhole size → new ≡ passed old size → new.before + length new.held ≡ old.before + length old.held
still_fed old new size whole is = subst (λ (f : Framing). f.before + length f.held ≡ old.before + length old.held) (sym is) (omega (arith, whole_there old.limit old.held size whole, length-drop size old.held))

pub fewer_held : (old new : Framing) (size : ℕ) → front old.limit old.held ≡ IsWhole size → 0 < size → new ≡ passed old size → length new.held < length old.held
fewer_held old new size whole some is = subst (λ (f : Framing). length f.held < length old.held) (sym is) (omega (arith, some, whole_there old.limit old.held size whole, length-drop size old.held))

-- the frames of the stream are those that were answered, this one, and others
frames_then : (origin now : Sight) (gathered stream : List ℕ) (turns : List Turn) (old new : Framing) (agent : Agent) (frame : List ℕ) → Handed origin now gathered stream turns old agent → Gives old new (Whole frame)
    → (others : List (List ℕ)) × (frames_in stream ≡ frames_of turns ++ frame ∷ others)
frames_then origin now gathered stream turns old new agent frame h a =
    let c = continues old new (Whole frame) a stream (frames_of turns) h.cut in
    (frames old.limit new.held, ap (λ (limit : ℕ). frames limit stream) (sym h.limit) ∙ c.0)

pub handed_more : (origin before after : Sight) (some more stream : List ℕ) (turns : List Turn) (old new : Framing) (agent later : Agent) (frame word : List ℕ) → Handed origin before some stream turns old agent → Gives old new (Whole frame) → DrawsAll before.words after.words (word ∷ [])
    → (t : Turns (after_turns [] turns) frame word before.dialed after.dialed origin.holds after.holds more later) → Handed origin after more stream (turns ++ turn_of frame word t.heard ∷ []) new later
handed_more origin before after some more stream turns old new agent later frame word h a drew t =
    let turn : Turn = turn_of frame word t.heard in
    let is : after_turns [] (turns ++ turn ∷ []) ≡ after_turn (after_turns [] turns) turn = after_one [] turns turn in
    record {
      cut = subst (HasHandedOut new stream) (sym (frames_one turns turn)) (continues old new (Whole frame) a stream (frames_of turns) h.cut).1;
      limit = a.2.limit ∙ h.limit;
      stands = subst (λ (H : History). StandsFor H later) (sym is) t.stands;
      goes = goes_one origin before after turns frame word t.heard h.goes drew t.made;
      met = all_met_one turns turn h.met t.met;
      told = subst (λ (H : History). Gathers origin.holds after.holds more (text_of H)) (sym is) t.told;
    }

stops_cut : (status : Status) (origin now : Sight) (gathered stream : List ℕ) → IsCut status → IsCutShort status origin now gathered stream → StopsAt origin now gathered stream status
stops_cut status origin now gathered stream (inl memory) c = subst (StopsAt origin now gathered stream) (sym memory) (subst (λ (s : Status). IsCutShort s origin now gathered stream) memory c)
stops_cut status origin now gathered stream (inr write) c = subst (StopsAt origin now gathered stream) (sym write) (subst (λ (s : Status). IsCutShort s origin now gathered stream) write c)

-- the replies to a frame were told in part
pub stops_in_frame : (status : Status) (origin before after : Sight) (some more stream : List ℕ) (turns : List Turn) (old new : Framing) (agent : Agent) (frame word : List ℕ) → Handed origin before some stream turns old agent → Gives old new (Whole frame) → DrawsAll before.words after.words (word ∷ [])
    → IsCut status → TurnsPart status (after_turns [] turns) frame word before.dialed after.dialed origin.holds after.holds more → StopsAt origin after more stream status
stops_in_frame status origin before after some more stream turns old new agent frame word h a drew cut t =
    let turn : Turn = turn_of frame word t.heard in
    let others = frames_then origin before some stream turns old new agent frame h a in
    stops_cut status origin after more stream cut (record {
      front = frames_of turns ++ frame ∷ [];
      others = others.0;
      parts = others.1 ∙ sym (append_assoc (frames_of turns) (frame ∷ []) others.0);
      told = record {
        turns = turns;
        last = turn ∷ [];
        one = omega arith;
        are = frames_one turns turn;
        goes = goes_one_part origin before after turns frame word t.heard h.goes drew t.made;
        met = h.met;
        told = subst (λ (H : History). GathersPart status origin.holds after.holds more (text_of H)) (sym (after_one [] turns turn)) t.told;
      };
    })

-- no word was drawn for a frame
pub stops_wordless : (status : Status) (origin now : Sight) (words : Option (List (List ℕ))) (gathered stream : List ℕ) (turns : List Turn) (old new : Framing) (agent : Agent) (frame : List ℕ) → Handed origin now gathered stream turns old agent → Gives old new (Whole frame) → DrawsAll now.words words []
    → status ≡ WordFault → StopsAt origin (sight words now.dialed now.holds) gathered stream status
stops_wordless status origin now words gathered stream turns old new agent frame h a drew is =
    let others = frames_then origin now gathered stream turns old new agent frame h a in
    subst (StopsAt origin (sight words now.dialed now.holds) gathered stream) (sym is) (record {
      front = frames_of turns;
      frame = frame;
      others = others.0;
      parts = others.1;
      told = record { turns = turns; are = refl; goes = goes_still origin now words now.holds turns h.goes drew; met = h.met; told = h.told };
    })

-- there is no frame more
pub handed_all : (origin now : Sight) (gathered stream : List ℕ) (turns : List Turn) (old new : Framing) (agent : Agent) → Handed origin now gathered stream turns old agent → Gives old new NotYet → AllHanded origin now gathered stream new agent
handed_all origin now gathered stream turns old new agent h a =
    let all : frames_in stream ≡ frames_of turns = ap (λ (limit : ℕ). frames limit stream) (sym h.limit) ∙ continues old new NotYet a stream (frames_of turns) h.cut in
    record {
      turns = turns;
      are = sym all;
      handed = subst (λ (f : Framing). Handed origin now gathered stream turns f agent) (sym a.1) h;
      short = ap (λ (f : Framing). front most_frame f.held) a.1 ∙ ap (λ (limit : ℕ). front limit old.held) (sym h.limit) ∙ a.0;
    }

-- what was answered and is told, was in part
in_part : (frames : List (List ℕ)) (origin now : Sight) (gathered : List ℕ) → Told frames origin now gathered → ToldPart NoMemory frames origin now gathered
in_part frames origin now gathered t =
    let same : t.turns ++ [] ≡ t.turns = append-nil t.turns in
    record {
      turns = t.turns;
      last = [];
      one = omega arith;
      are = ap frames_of same ∙ t.are;
      goes = subst (λ (ts : List Turn). GoesPart origin now ts) (sym same) (goes_part origin now t.turns t.goes);
      met = t.met;
      told = subst (λ (ts : List Turn). GathersPart NoMemory origin.holds now.holds gathered (replies_text ts)) (sym same)
          (part_memory origin.holds now.holds gathered (replies_text t.turns) (replies_text t.turns) [] (sym (append-nil (replies_text t.turns))) t.told);
    }

all_told : (origin now : Sight) (gathered stream : List ℕ) (f : Framing) (agent : Agent) → AllHanded origin now gathered stream f agent → Told (frames_in stream) origin now gathered
all_told origin now gathered stream f agent h = record { turns = h.turns; are = h.are; goes = h.handed.goes; met = h.handed.met; told = h.handed.told }

-- a bad size stands there
pub stops_bad : (origin now : Sight) (gathered stream : List ℕ) (turns : List Turn) (f : Framing) (agent : Agent) (at size : ℕ) → Handed origin now gathered stream turns f agent → front f.limit f.held ≡ IsBad size → at ≡ f.before → StopsAt origin now gathered stream (BadFrame at size)
stops_bad origin now gathered stream turns f agent at size h bad place =
    let c = continues f f (BadSize at size) (bad, place, refl) stream (frames_of turns) h.cut in
    let all : frames_in stream ≡ frames_of turns = ap (λ (limit : ℕ). frames limit stream) (sym h.limit) ∙ c.0 in
    let cut : HasHandedOut f stream (frames_in stream) = subst (HasHandedOut f stream) (sym all) h.cut in
    record {
      place = place ∙ cut.place;
      bad = behind_frames most_frame f stream (IsBad size) cut (ap (λ (limit : ℕ). front limit f.held) (sym h.limit) ∙ bad);
      told = record { turns = turns; are = sym all; goes = h.goes; met = h.met; told = h.told };
    }

-- ---- what was gathered is written

told_gone : (frames : List (List ℕ)) (origin now : Sight) (later : Option (List ℕ)) (gathered : List ℕ) → Gains now.holds later gathered → Told frames origin now gathered → Told frames origin (holding now later) []
told_gone frames origin now later gathered gone t = record { turns = t.turns; are = t.are; goes = goes_on origin now later t.turns t.goes; met = t.met; told = gathers_gone origin.holds now.holds later gathered (replies_text t.turns) gone t.told }

told_part_gone : (status : Status) (frames : List (List ℕ)) (origin now : Sight) (later : Option (List ℕ)) (gathered : List ℕ) → Gains now.holds later gathered → ToldPart status frames origin now gathered → ToldPart status frames origin (holding now later) []
told_part_gone status frames origin now later gathered gone t = record {
  turns = t.turns;
  last = t.last;
  one = t.one;
  are = t.are;
  goes = goes_part_on origin now later (t.turns ++ t.last) t.goes;
  met = t.met;
  told = part_gone status origin.holds now.holds later gathered (replies_text (t.turns ++ t.last)) gone t.told;
}

told_part_failed : (status other : Status) (frames : List (List ℕ)) (origin now : Sight) (later : Option (List ℕ)) (gathered : List ℕ) → GainsPart other now.holds later gathered → ToldPart status frames origin now gathered → ToldPart other frames origin (holding now later) []
told_part_failed status other frames origin now later gathered failed t = record {
  turns = t.turns;
  last = t.last;
  one = t.one;
  are = t.are;
  goes = goes_part_on origin now later (t.turns ++ t.last) t.goes;
  met = t.met;
  told = part_failed status other origin.holds now.holds later gathered (replies_text (t.turns ++ t.last)) failed t.told;
}

pub handed_gone : (origin now : Sight) (later : Option (List ℕ)) (gathered stream : List ℕ) (f : Framing) (agent : Agent) → Gains now.holds later gathered → AllHanded origin now gathered stream f agent → AllHanded origin (holding now later) [] stream f agent
handed_gone origin now later gathered stream f agent gone h = record {
  turns = h.turns;
  are = h.are;
  handed = record {
    cut = h.handed.cut;
    limit = h.handed.limit;
    stands = h.handed.stands;
    goes = goes_on origin now later h.turns h.handed.goes;
    met = h.handed.met;
    told = gathers_gone origin.holds now.holds later gathered (replies_text h.turns) gone h.handed.told;
  };
  short = h.short;
}

pub stop_gone : (status : Status) (origin now : Sight) (later : Option (List ℕ)) (gathered stream : List ℕ) → Gains now.holds later gathered → StopsAt origin now gathered stream status → StopsAt origin (holding now later) [] stream status
stop_gone Fine origin now later gathered stream gone s = absurd s
stop_gone Usage origin now later gathered stream gone s = absurd s
stop_gone ReadFault origin now later gathered stream gone s = absurd s
stop_gone WriteFault origin now later gathered stream gone s = record { front = s.front; others = s.others; parts = s.parts; told = told_part_gone WriteFault s.front origin now later gathered gone s.told }
stop_gone (BadFrame at size) origin now later gathered stream gone s = record { place = s.place; bad = s.bad; told = told_gone (frames_in stream) origin now later gathered gone s.told }
stop_gone (Torn at) origin now later gathered stream gone s = absurd s
stop_gone NoMemory origin now later gathered stream gone s = record { front = s.front; others = s.others; parts = s.parts; told = told_part_gone NoMemory s.front origin now later gathered gone s.told }
stop_gone (Flood limit) origin now later gathered stream gone s = absurd s
stop_gone WordFault origin now later gathered stream gone s = record { front = s.front; frame = s.frame; others = s.others; parts = s.parts; told = told_gone s.front origin now later gathered gone s.told }
stop_gone (BadScript line cause) origin now later gathered stream gone s = absurd s
stop_gone (BadTables speaks line) origin now later gathered stream gone s = absurd s
stop_gone (AsEnded end) origin now later gathered stream gone s = absurd s

-- a stop of the answers tells a part of all replies
told_so : (status : Status) (origin now : Sight) (gathered stream : List ℕ) → StopsAt origin now gathered stream status → IsCutShort NoMemory origin now gathered stream
told_so Fine origin now gathered stream s = absurd s
told_so Usage origin now gathered stream s = absurd s
told_so ReadFault origin now gathered stream s = absurd s
told_so WriteFault origin now gathered stream s = record {
  front = s.front;
  others = s.others;
  parts = s.parts;
  told = record {
    turns = s.told.turns;
    last = s.told.last;
    one = s.told.one;
    are = s.told.are;
    goes = s.told.goes;
    met = s.told.met;
    told = record { told = s.told.told.told; rest = s.told.told.rest; parts = s.told.told.parts; gathers = s.told.told.gathers; missing = λ e. absurd (cc) };
  };
}
told_so (BadFrame at size) origin now gathered stream s = record { front = frames_in stream; others = []; parts = sym (append-nil (frames_in stream)); told = in_part (frames_in stream) origin now gathered s.told }
told_so (Torn at) origin now gathered stream s = absurd s
told_so NoMemory origin now gathered stream s = s
told_so (Flood limit) origin now gathered stream s = absurd s
told_so WordFault origin now gathered stream s = record { front = s.front; others = s.frame ∷ s.others; parts = s.parts; told = in_part s.front origin now gathered s.told }
told_so (BadScript line cause) origin now gathered stream s = absurd s
told_so (BadTables speaks line) origin now gathered stream s = absurd s
told_so (AsEnded end) origin now gathered stream s = absurd s

stop_failed : (other : Status) (origin now : Sight) (later : Option (List ℕ)) (gathered stream : List ℕ) → other ≡ WriteFault → GainsPart other now.holds later gathered → IsCutShort NoMemory origin now gathered stream → StopsAt origin (holding now later) [] stream other
stop_failed other origin now later gathered stream is failed s =
    stops_cut other origin (holding now later) [] stream (inr is) (record { front = s.front; others = s.others; parts = s.parts; told = told_part_failed NoMemory other s.front origin now later gathered failed s.told })

-- the write failed, whatever stopped the answers
pub stops_writing : {X : Type 0} (result : Result X Status) (status : Status) (origin now : Sight) (later : Option (List ℕ)) (gathered stream : List ℕ) (f : Framing) (agent : Agent) → OnOk result (AllHanded origin now gathered stream f agent) → IfErr result (λ stop. StopsAt origin now gathered stream stop)
    → status ≡ WriteFault → GainsPart status now.holds later gathered → StopsAt origin (holding now later) [] stream status
stops_writing (Ok x) status origin now later gathered stream f agent all stop is failed =
    stop_failed status origin now later gathered stream is failed (record { front = frames_in stream; others = []; parts = sym (append-nil (frames_in stream)); told = in_part (frames_in stream) origin now gathered (all_told origin now gathered stream f agent all) })
stops_writing (Err stopped) status origin now later gathered stream f agent all stop is failed = stop_failed status origin now later gathered stream is failed (told_so stopped origin now gathered stream stop)

-- nothing is gathered
pub handed_left : (origin now : Sight) (left stream : List ℕ) (turns : List Turn) (f : Framing) (agent : Agent) → left ≡ [] → Handed origin now [] stream turns f agent → Handed origin now left stream turns f agent
handed_left origin now left stream turns f agent none h = subst (λ (l : List ℕ). Handed origin now l stream turns f agent) (sym none) h

-- ---- a piece more

pub fed : (origin now : Sight) (stream piece : List ℕ) (old new : Framing) (agent : Agent) → (h : AllHanded origin now [] stream old agent) → new ≡ with_more old piece
    → Handed origin now [] (stream ++ piece) h.turns new agent
fed origin now stream piece old new agent h is = record { cut = fed_more old new stream piece (frames_of h.turns) h.handed.cut is; limit = ap (λ (f : Framing). f.limit) is ∙ h.handed.limit; stands = h.handed.stands; goes = h.handed.goes; met = h.handed.met; told = h.handed.told }

-- ---- the end of the pipe

replied : (frames : List (List ℕ)) (origin now : Sight) → Told frames origin now [] → Replies frames origin now
replied frames origin now t = record { turns = t.turns; are = t.are; goes = t.goes; met = t.met; written = all_written origin.holds now.holds (replies_text t.turns) t.told }

all_replied : (origin now : Sight) (stream : List ℕ) (f : Framing) (agent : Agent) → AllHanded origin now [] stream f agent → Replies (frames_in stream) origin now
all_replied origin now stream f agent h = replied (frames_in stream) origin now (all_told origin now [] stream f agent h)

replied_part : (status : Status) (frames : List (List ℕ)) (origin now : Sight) → ToldPart status frames origin now [] → RepliesPart status frames origin now
replied_part status frames origin now t = record { turns = t.turns; last = t.last; one = t.one; are = t.are; goes = t.goes; met = t.met; written = part_written status origin.holds now.holds (replies_text (t.turns ++ t.last)) t.told }

-- what stops an answer is the end of the pipe
pub stop_ends : (status : Status) (first next : Option (List ℕ)) (origin now : Sight) (input behind : List ℕ) → Reads first next input behind → StopsAt origin now [] input status → EndsSo status first next origin now
stop_ends Fine first next origin now input behind r s = absurd s
stop_ends Usage first next origin now input behind r s = absurd s
stop_ends ReadFault first next origin now input behind r s = absurd s
stop_ends WriteFault first next origin now input behind r s = record { input = input; behind = behind; read = r; front = s.front; others = s.others; parts = s.parts; replies = replied_part WriteFault s.front origin now s.told }
stop_ends WordFault first next origin now input behind r s = record { input = input; behind = behind; read = r; front = s.front; frame = s.frame; others = s.others; parts = s.parts; replies = replied s.front origin now s.told }
stop_ends (BadFrame at size) first next origin now input behind r s = record { input = input; behind = behind; read = r; place = s.place; bad = s.bad; replies = replied (frames_in input) origin now s.told }
stop_ends (Torn at) first next origin now input behind r s = absurd s
stop_ends (BadScript line cause) first next origin now input behind r s = absurd s
stop_ends (BadTables speaks line) first next origin now input behind r s = absurd s
stop_ends (AsEnded end) first next origin now input behind r s = absurd s
stop_ends NoMemory first next origin now input behind r s = record { input = input; behind = behind; read = r; front = s.front; others = s.others; parts = s.parts; replies = replied_part NoMemory s.front origin now s.told }
stop_ends (Flood limit) first next origin now input behind r s = absurd s

-- nothing was read behind the input
pub reads_all : (first now : Option (List ℕ)) (input : List ℕ) → Consumes first now input → length input ≤ most_input → Reads first now input []
reads_all first now input taken few = record { taken = subst (Consumes first now) (sym (append-nil input)) taken; bounded = few; full = λ some. absurd (omega (arith, some)) }

pub taken_there : (first next : Option (List ℕ)) (origin now : Sight) (session : Session) → (p : Piped first next origin now session) → length p.stream ≡ session.framer.before + length session.framer.held
taken_there first next origin now session p = length_fed session.framer p.stream (frames_of p.handed.turns) p.handed.handed.cut

-- all frames of the stream were cut off
all_cut : (origin now : Sight) (gathered stream : List ℕ) (f : Framing) (agent : Agent) → AllHanded origin now gathered stream f agent → HasHandedOut f stream (frames_in stream)
all_cut origin now gathered stream f agent h = subst (HasHandedOut f stream) h.are h.handed.cut

-- ---- the end of the input

pub torn : (first next : Option (List ℕ)) (origin now : Sight) (session : Session) → Piped first next origin now session → IsAtEnd next → 0 < length session.framer.held → EndsInside session.framer.before first next origin now
torn first next origin now session p end some =
    let cut = all_cut origin now [] p.stream session.framer session.agent p.handed in
    record {
      input = p.stream;
      read = reads_all first next p.stream p.read p.few;
      at_end = end;
      place = cut.place;
      inside = omega (arith, some, taken_there first next origin now session p);
      short = behind_frames most_frame session.framer p.stream IsShort cut p.handed.short;
      replies = all_replied origin now p.stream session.framer session.agent p.handed;
    }

pub answered : (first next : Option (List ℕ)) (origin now : Sight) (session : Session) → Piped first next origin now session → IsAtEnd next → (0 < length session.framer.held → ⊥) → Answers first next origin now
answered first next origin now session p end none =
    let replies = all_replied origin now p.stream session.framer session.agent p.handed in
    record {
      input = p.stream;
      read = reads_all first next p.stream p.read p.few;
      at_end = end;
      whole = all_frames most_frame session.framer p.stream (all_cut origin now [] p.stream session.framer session.agent p.handed) none;
      replies = replies;
      piped = replies.written;
    }

-- the input may go on, where it has no bad size so far
pub read_so_far : (first next : Option (List ℕ)) (origin now : Sight) (session : Session) → Piped first next origin now session → EndsSo ReadFault first next origin now
read_so_far first next origin now session p = record {
  input = p.stream;
  read = reads_all first next p.stream p.read p.few;
  short = behind_frames most_frame session.framer p.stream IsShort (all_cut origin now [] p.stream session.framer session.agent p.handed) p.handed.short;
  replies = all_replied origin now p.stream session.framer session.agent p.handed;
}

-- ---- before the first read

pub begun : (first : Option (List ℕ)) (origin : Sight) (agent : Agent) (framer : Framing) (replies : List ℕ) → StandsFor [] agent → framer ≡ record { limit = most_frame; before = 0; held = [] } → HasHandedOut framer [] [] → Piped first first origin origin (record { agent = agent; framer = framer; replies = replies })
begun first origin agent framer replies stands is cut = record {
  stream = [];
  read = Consumes-nil first;
  few = omega arith;
  handed = record {
    turns = [];
    are = sym (no_frames most_frame);
    handed = record { cut = cut; limit = ap (λ (f : Framing). f.limit) is; stands = stands; goes = goes_none origin; met = refl; told = gathers_none origin.holds };
    short = ap (λ (f : Framing). front most_frame f.held) is ∙ front_none most_frame [] 0 refl;
  };
}

-- ---- statuses that don't come

pub cut_reads : (status : Status) → IsCut status → status ≡ ReadFault → ⊥
cut_reads status (inl memory) read = let e : NoMemory ≡ ReadFault = sym memory ∙ read in (cc)
cut_reads status (inr write) read = let e : WriteFault ≡ ReadFault = sym write ∙ read in (cc)

pub cut_draws : (status : Status) → IsCut status → status ≡ WordFault → ⊥
cut_draws status (inl memory) drew = let e : NoMemory ≡ WordFault = sym memory ∙ drew in (cc)
cut_draws status (inr write) drew = let e : WriteFault ≡ WordFault = sym write ∙ drew in (cc)

-- ---- what one read gave

-- nothing, and all stays
pub piped_still : (first next later : Option (List ℕ)) (origin now : Sight) (old new : Session) → Piped first next origin now old → Keeps next later → new.framer ≡ old.framer → new.agent ≡ old.agent → Piped first later origin now new
piped_still first next later origin now old new p kept framer agent = record {
  stream = p.stream;
  read = Consumes-kept first next later p.stream p.read kept;
  few = p.few;
  handed = subst (λ (f : Framing). AllHanded origin now [] p.stream f new.agent) (sym framer) (subst (λ (a : Agent). AllHanded origin now [] p.stream old.framer a) (sym agent) p.handed);
}

-- a piece, whose frames were answered
pub piped_more : (first next later : Option (List ℕ)) (origin before after : Sight) (old new : Session) (piece : List ℕ) → (p : Piped first next origin before old) → Consumes next later piece → taken_by old + length piece ≤ most_input
    → AllHanded origin after [] (p.stream ++ piece) new.framer new.agent → Piped first later origin after new
piped_more first next later origin before after old new piece p more few h = record {
  stream = p.stream ++ piece;
  read = Consumes-trans first next later p.stream piece p.read more;
  few = omega (arith, few, length-append p.stream piece, taken_there first next origin before old p);
  handed = h;
}

-- a piece, whose frames weren't all answered
pub stops_more : (status : Status) (first next later : Option (List ℕ)) (origin before now : Sight) (session : Session) (piece : List ℕ) → (p : Piped first next origin before session) → Consumes next later piece → taken_by session + length piece ≤ most_input
    → StopsAt origin now [] (p.stream ++ piece) status → EndsSo status first later origin now
stops_more status first next later origin before now session piece p more few s =
    stop_ends status first later origin now (p.stream ++ piece) []
    (reads_all first later (p.stream ++ piece) (Consumes-trans first next later p.stream piece p.read more) (omega (arith, few, length-append p.stream piece, taken_there first next origin before session p))) s

pub flooded : (first next : Option (List ℕ)) (origin now : Sight) (input behind : List ℕ) (f : Framing) (agent : Agent) → Reads first next input behind → 0 < length behind → AllHanded origin now [] input f agent → Floods first next origin now
flooded first next origin now input behind f agent r some h = record {
  input = input;
  behind = behind;
  read = r;
  over = some;
  short = behind_frames most_frame f input IsShort (all_cut origin now [] input f agent h) h.short;
  replies = all_replied origin now input f agent h;
}

-- more came than a pipe takes
pub floods : (first next later : Option (List ℕ)) (origin now : Sight) (session : Session) (piece : List ℕ) → Piped first next origin now session → taken_by session ≡ most_input → Consumes next later piece → 0 < length piece → Floods first later origin now
floods first next later origin now session piece p full more some =
    let long : length p.stream ≡ most_input = taken_there first next origin now session p ∙ full in
    flooded first later origin now p.stream piece session.framer session.agent
    (record { taken = Consumes-trans first next later p.stream piece p.read more; bounded = p.few; full = λ _. long }) some p.handed

-- ---- a session can read on

pub ready_still : (old new : Session) → new.framer ≡ old.framer → IsReady old → IsReady new
ready_still old new is r = record {
  short = subst (λ (f : Framing). front f.limit f.held ≡ IsShort) (sym is) r.short;
  few = subst (λ (f : Framing). f.before + length f.held ≤ most_input) (sym is) r.few;
}

pub begun_ready : (session : Session) → session.framer ≡ record { limit = most_frame; before = 0; held = [] } → IsReady session
begun_ready session is = record {
  short = subst (λ (f : Framing). front f.limit f.held ≡ IsShort) (sym is) (front_none most_frame [] 0 refl);
  few = subst (λ (f : Framing). f.before + length f.held ≤ most_input) (sym is) (omega arith);
}

pub fed_length : (old new : Framing) (piece : List ℕ) → new ≡ with_more old piece → new.before + length new.held ≡ old.before + length old.held + length piece
fed_length old new piece is = subst (λ (f : Framing). f.before + length f.held ≡ old.before + length old.held + length piece) (sym is) (omega (arith, length-append old.held piece))

-- memory ran out before the first read
pub memory_first : (first : Option (List ℕ)) (origin : Sight) → EndsSo NoMemory first first origin origin
memory_first first origin = record {
  input = [];
  behind = [];
  read = reads_all first first [] (Consumes-nil first) (omega arith);
  front = [];
  others = [];
  parts = no_frames most_frame;
  replies = replied_part NoMemory [] origin origin (in_part [] origin origin [] (record { turns = []; are = refl; goes = goes_none origin; met = refl; told = gathers_none origin.holds }));
}
