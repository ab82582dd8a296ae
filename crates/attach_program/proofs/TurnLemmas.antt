-- One turn more of a run.
use Rattle.std.proofs.Common.{◌≡◌, ℕ, List, [], ◌∷◌, ◌++◌, Option, refl, sym, ap, subst, ◌∙◌, append_assoc, append-nil, arith}
use Rattle.wire_streams.specs.Spawning.{Gains as Notes}
use Rattle.wire_streams.specs.Streams.{Gains}
use Rattle.wire_streams.specs.Whole.{GainsFront}
use Rattle.wire_streams.proofs.StreamLemmas.{Gains-nil, Gains-trans}
use Rattle.wire_streams.proofs.AddLemmas.{Gains-nil as Notes-nil, Gains-trans as Notes-trans}
use Rattle.auth_server.specs.Sessions.{DrawsAll}
use Rattle.auth_server.proofs.DrawLemmas.{drawn_more, none_drawn}
use Rattle.agent_history.specs.Histories.{History}
use Rattle.doors.specs.Calls.{PortCall}
use Rattle.doors.specs.Doors.{Stepped}
use Rattle.doors.specs.Histories.{reply_to}
use Rattle.agent_core.specs.declared.agent.Agent.{Agent}
use Rattle.door_ports.specs.declared.agent_port.AgentPort.{AgentPort}
use Rattle.door_ports.specs.Exchanges.{Exchange}
use Rattle.door_ports.specs.Agents.{StandsBehind}
use Rattle.door_ports.specs.Ports.{Stands, StandsWith, Stood, fresh, told_word}
use Rattle.door_ports.proofs.PortLaws.{came_to}
use Rattle.attach_program.specs.declared.session.Session.{Session}
use Rattle.attach_program.specs.declared.status.AttachStatus.{AttachStatus}
use Rattle.attach_program.specs.declared.status.AttachStatus.TheVariants.{NoMemory, WordFault, WriteFault}
use Rattle.attach_program.specs.Notes.{Note, note_of}
use Rattle.attach_program.specs.Runs.{Goes, IsRun, Run, Sight, Turn, door_of, in_door, notes_of, replies_of, sight, exchanged_in, told_next, words_of}
use Rattle.attach_program.specs.Steps.{LacksOne, LosesOne, PortIs, Served, ServedMore, TurnEnds, Turned, stood}

-- ---- the port

-- a port that a run left, and that was told a word
pub told_so : (keys : History) (run : Run) (word : List ℕ) (old new : AgentPort Agent) → PortIs keys run old
    → ((s : Stood History) (calls : List PortCall) (more : List Exchange) → StandsWith StandsBehind s calls more old → StandsWith StandsBehind (told_word s calls more word) [] [] new)
    → StandsWith StandsBehind (stood keys (exchanged_in run) (told_next run word)) [] [] new
told_so keys [] word old new is told = told (fresh keys 1) [] [] is
told_so keys (turn ∷ before) word old new is told = told (stood keys (exchanged_in before) (told_next before turn.word)) turn.calls turn.exchanged is

-- ---- one frame

pub turned : (keys : History) (run : Run) (frame word old : List ℕ) (session : Session) → IsRun keys run → old ≡ []
    → Stepped (Stands StandsBehind (stood keys (exchanged_in run) (told_next run word))) (door_of run) [] frame session.door session.port old session.reply → Turned keys run frame word session
turned keys run frame word old session is none s =
    let here = stood keys (exchanged_in run) (told_next run word) in
    let told : Stands StandsBehind here s.turn.calls session.port = subst (λ (calls : List PortCall). Stands StandsBehind here calls session.port) (append-nil s.turn.calls) s.told in
    let came = came_to StandsBehind here s.turn.calls told.0 session.port told.1 in
    let turn : Turn = record { frame = s.turn.frame; word = word; calls = s.turn.calls; exchanged = told.0 } in
    record {
      turn = turn;
      frame_is = s.frame_is;
      word_is = refl;
      stands = record {
        door = s.stands_for;
        port = told.1;
        is = (record { asks = s.asks; made = came.made; replied = came.stood.replied }, is);
      };
      said = s.said ∙ ap (λ (o : List ℕ). o ++ reply_to (door_of run) (in_door turn)) none;
    }

-- ---- what was drawn, written and noted

pub goes_none : (origin : Sight) → Goes origin origin []
goes_none origin = record { drew = none_drawn origin.words; wrote = Gains-nil origin.holds; told = Notes-nil origin.noted }

-- no word was drawn
pub goes_still : (origin now : Sight) (words : Option (List (List ℕ))) (run : Run) → Goes origin now run → DrawsAll now.words words [] → Goes origin (sight words now.holds now.noted) run
goes_still origin now words run g none = record {
  drew = subst (DrawsAll origin.words words) (append-nil (words_of run)) (drawn_more origin.words now.words words (words_of run) [] g.drew none);
  wrote = g.wrote;
  told = g.told;
}

-- a frame was answered, noted and written
pub served_more : (keys : History) (origin before : Sight) (run : Run) (words : Option (List (List ℕ))) (holds : Option (List ℕ)) (noted : Option (List Note)) (frame word : List ℕ) (old new : Session)
    → Served keys origin before run old → DrawsAll before.words words (word ∷ []) → (t : Turned keys run frame word new) → Notes before.noted noted (note_of frame new.reply) → Gains before.holds holds new.reply
    → ServedMore keys origin (sight words holds noted) run frame new
served_more keys origin before run words holds noted frame word old new s drew t told wrote = record {
  turn = t.turn;
  frame_is = t.frame_is;
  served = record {
    stands = t.stands;
    goes = record {
      drew = drawn_more origin.words before.words words (words_of run) (t.turn.word ∷ []) s.goes.drew (subst (λ (w : List ℕ). DrawsAll before.words words (w ∷ [])) (sym t.word_is) drew);
      wrote = Gains-trans origin.holds before.holds holds (replies_of run) (reply_to (door_of run) (in_door t.turn)) s.goes.wrote (subst (Gains before.holds holds) t.said wrote);
      told = Notes-trans origin.noted before.noted noted (notes_of run) (note_of t.turn.frame (reply_to (door_of run) (in_door t.turn))) s.goes.told (noted_so keys run frame word new before.noted noted t told);
    };
  };
}
  where
    noted_so : (keys : History) (run : Run) (frame word : List ℕ) (new : Session) (before noted : Option (List Note)) → (t : Turned keys run frame word new) → Notes before noted (note_of frame new.reply) → Notes before noted (note_of t.turn.frame (reply_to (door_of run) (in_door t.turn)))
    noted_so keys run frame word new before noted t told = subst (λ (f : List ℕ). Notes before noted (note_of f (reply_to (door_of run) (in_door t.turn)))) (sym t.frame_is) (subst (λ (r : List ℕ). Notes before noted (note_of frame r)) t.said told)

-- memory ran out for it
pub lacks_one : (keys : History) (origin before : Sight) (run : Run) (words : Option (List (List ℕ))) (word : List ℕ) (old : Session) → Served keys origin before run old → DrawsAll before.words words (word ∷ []) → LacksOne keys origin (sight words before.holds before.noted) run
lacks_one keys origin before run words word old s drew = record {
  is = s.stands.is;
  more = word ∷ [];
  one = omega arith;
  moves = record { drew = drawn_more origin.words before.words words (words_of run) (word ∷ []) s.goes.drew drew; wrote = s.goes.wrote; told = s.goes.told };
}

-- its reply wasn't taken whole
front_more : (origin before now : Option (List ℕ)) (written piece : List ℕ) → Gains origin before written → GainsFront before now piece → GainsFront origin now (written ++ piece)
front_more origin before now written piece g f = record {
  front = written ++ f.front;
  rest = f.rest;
  parts = ap (λ (t : List ℕ). written ++ t) f.parts ∙ sym (append_assoc written f.front f.rest);
  gained = Gains-trans origin before now written f.front g f.gained;
  missing = f.missing;
}

pub loses_one : (keys : History) (origin before : Sight) (run : Run) (words : Option (List (List ℕ))) (holds : Option (List ℕ)) (noted : Option (List Note)) (frame word : List ℕ) (old new : Session)
    → Served keys origin before run old → DrawsAll before.words words (word ∷ []) → (t : Turned keys run frame word new) → Notes before.noted noted (note_of frame new.reply) → GainsFront before.holds holds new.reply
    → LosesOne keys origin (sight words holds noted) run frame
loses_one keys origin before run words holds noted frame word old new s drew t told wrote = record {
  turn = t.turn;
  frame_is = t.frame_is;
  is = t.stands.is;
  drew = drawn_more origin.words before.words words (words_of run) (t.turn.word ∷ []) s.goes.drew (subst (λ (w : List ℕ). DrawsAll before.words words (w ∷ [])) (sym t.word_is) drew);
  wrote = front_more origin.holds before.holds holds (replies_of run) (reply_to (door_of run) (in_door t.turn)) s.goes.wrote (subst (GainsFront before.holds holds) t.said wrote);
  told = Notes-trans origin.noted before.noted noted (notes_of run) (note_of t.turn.frame (reply_to (door_of run) (in_door t.turn))) s.goes.told
      (subst (λ (f : List ℕ). Notes before.noted noted (note_of f (reply_to (door_of run) (in_door t.turn)))) (sym t.frame_is) (subst (λ (r : List ℕ). Notes before.noted noted (note_of frame r)) t.said told));
}

-- ---- why a frame wasn't answered

pub ends_wordless : (status : AttachStatus) (keys : History) (origin before : Sight) (words : Option (List (List ℕ))) (run : Run) (frame : List ℕ) (old : Session) → status ≡ WordFault → Served keys origin before run old → DrawsAll before.words words [] → TurnEnds status keys origin (sight words before.holds before.noted) run frame
ends_wordless status keys origin before words run frame old is s none = subst (λ (e : AttachStatus). TurnEnds e keys origin (sight words before.holds before.noted) run frame) (sym is) (s.stands.is, goes_still origin before words run s.goes none)

pub ends_memory : (status : AttachStatus) (keys : History) (origin before : Sight) (words : Option (List (List ℕ))) (run : Run) (frame word : List ℕ) (old : Session) → status ≡ NoMemory → Served keys origin before run old → DrawsAll before.words words (word ∷ []) → TurnEnds status keys origin (sight words before.holds before.noted) run frame
ends_memory status keys origin before words run frame word old is s drew = subst (λ (e : AttachStatus). TurnEnds e keys origin (sight words before.holds before.noted) run frame) (sym is) (lacks_one keys origin before run words word old s drew)

pub ends_writing : (status : AttachStatus) (keys : History) (origin before : Sight) (run : Run) (words : Option (List (List ℕ))) (holds : Option (List ℕ)) (noted : Option (List Note)) (frame word : List ℕ) (old new : Session)
    → status ≡ WriteFault → Served keys origin before run old → DrawsAll before.words words (word ∷ []) → Turned keys run frame word new → Notes before.noted noted (note_of frame new.reply) → GainsFront before.holds holds new.reply
    → TurnEnds status keys origin (sight words holds noted) run frame
ends_writing status keys origin before run words holds noted frame word old new is s drew t told wrote =
    subst (λ (e : AttachStatus). TurnEnds e keys origin (sight words holds noted) run frame) (sym is) (loses_one keys origin before run words holds noted frame word old new s drew t told wrote)
