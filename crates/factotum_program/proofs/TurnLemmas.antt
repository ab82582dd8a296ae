-- One frame more, of those that were answered.
use Rattle.std.proofs.Common.{◌≡◌, ℕ, List, [], ◌∷◌, ◌++◌, ◌&&◌, Option, Bool, true, refl, sym, ap, subst, ◌∙◌, append_assoc, append-nil}
use Rattle.std.proofs.lemmas.List.{map-append}
use Rattle.wire_streams.specs.Dials.{Dialed}
use Rattle.wire_streams.specs.declared.dialer.Made.{Made}
use Rattle.wire_streams.specs.declared.dialer.Outcome.{Outcome}
use Rattle.auth_server.specs.Sessions.{DrawsAll}
use Rattle.auth_server.proofs.DrawLemmas.{drawn_more, none_drawn}
use Rattle.agent_history.specs.Histories.{History}
use Rattle.factotum_program.specs.Pipe.{Turn, after_turn, after_turns, all_met, all_met_from, asked_in, calls_from, calls_of, frames_of, turn_of, words_of}
use Rattle.factotum_program.specs.Sights.{Goes, GoesPart, MakesAll, MakesPart, Sight, sight}
use Rattle.factotum_program.proofs.MadeLemmas.{made_more, made_none, part_all, part_more}
use Rattle.auth_program.proofs.WordLemmas.{and_left, and_right}

pub after_one : (H : History) (turns : List Turn) (turn : Turn) → after_turns H (turns ++ turn ∷ []) ≡ after_turn (after_turns H turns) turn
after_one H [] turn = refl
after_one H (t ∷ turns) turn = after_one (after_turn H t) turns turn

calls_one : (H : History) (turns : List Turn) (turn : Turn) → calls_from H (turns ++ turn ∷ []) ≡ calls_from H turns ++ (asked_in (after_turns H turns) turn).calls
calls_one H [] turn = append-nil (asked_in H turn).calls
calls_one H (t ∷ turns) turn = ap (λ (l : List Made). (asked_in H t).calls ++ l) (calls_one (after_turn H t) turns turn) ∙ sym (append_assoc (asked_in H t).calls (calls_from (after_turn H t) turns) (asked_in (after_turns (after_turn H t) turns) turn).calls)

met_one : (H : History) (turns : List Turn) (turn : Turn) → all_met_from H turns ≡ true → (asked_in (after_turns H turns) turn).met ≡ true → all_met_from H (turns ++ turn ∷ []) ≡ true
met_one H [] turn all one = rw one refl
met_one H (t ∷ turns) turn all one = rw (and_left (asked_in H t).met (all_met_from (after_turn H t) turns) all) (met_one (after_turn H t) turns turn (and_right (asked_in H t).met (all_met_from (after_turn H t) turns) all) one)

pub all_met_one : (turns : List Turn) (turn : Turn) → all_met turns ≡ true → (asked_in (after_turns [] turns) turn).met ≡ true → all_met (turns ++ turn ∷ []) ≡ true
all_met_one turns turn all one = met_one [] turns turn all one

pub frames_one : (turns : List Turn) (turn : Turn) → frames_of (turns ++ turn ∷ []) ≡ frames_of turns ++ turn.frame ∷ []
frames_one turns turn = map-append (λ (t : Turn). t.frame) turns (turn ∷ [])

-- ---- what was drawn and asked

pub goes_none : (origin : Sight) → Goes origin origin []
goes_none origin = record { drew = none_drawn origin.words; made = made_none origin.dialed }

-- a word was drawn for a frame, and its questions were asked
pub goes_one : (origin before after : Sight) (turns : List Turn) (frame word : List ℕ) (heard : List Outcome) → Goes origin before turns → DrawsAll before.words after.words (word ∷ [])
    → MakesAll before.dialed after.dialed (asked_in (after_turns [] turns) (turn_of frame word heard)).calls → Goes origin after (turns ++ turn_of frame word heard ∷ [])
goes_one origin before after turns frame word heard g drew made =
    let turn : Turn = turn_of frame word heard in
    let asked : List Made = (asked_in (after_turns [] turns) turn).calls in
    record {
      drew = subst (DrawsAll origin.words after.words) (sym (map-append (λ (t : Turn). t.word) turns (turn ∷ []))) (drawn_more origin.words before.words after.words (words_of turns) (word ∷ []) g.drew drew);
      made = subst (MakesAll origin.dialed after.dialed) (sym (calls_one [] turns turn)) (made_more origin.dialed before.dialed after.dialed (calls_of turns) asked g.made made);
    }

-- the same, where some connections are left to close
pub goes_one_part : (origin before after : Sight) (turns : List Turn) (frame word : List ℕ) (heard : List Outcome) → Goes origin before turns → DrawsAll before.words after.words (word ∷ [])
    → MakesPart before.dialed after.dialed (asked_in (after_turns [] turns) (turn_of frame word heard)).calls → GoesPart origin after (turns ++ turn_of frame word heard ∷ [])
goes_one_part origin before after turns frame word heard g drew made =
    let turn : Turn = turn_of frame word heard in
    let asked : List Made = (asked_in (after_turns [] turns) turn).calls in
    record {
      drew = subst (DrawsAll origin.words after.words) (sym (map-append (λ (t : Turn). t.word) turns (turn ∷ []))) (drawn_more origin.words before.words after.words (words_of turns) (word ∷ []) g.drew drew);
      made = subst (MakesPart origin.dialed after.dialed) (sym (calls_one [] turns turn)) (part_more origin.dialed before.dialed after.dialed (calls_of turns) asked g.made made);
    }

pub goes_part : (origin now : Sight) (turns : List Turn) → Goes origin now turns → GoesPart origin now turns
goes_part origin now turns g = record { drew = g.drew; made = part_all origin.dialed now.dialed (calls_of turns) g.made }

-- no word was drawn
pub goes_still : (origin now : Sight) (words : Option (List (List ℕ))) (holds : Option (List ℕ)) (turns : List Turn) → Goes origin now turns → DrawsAll now.words words [] → Goes origin (sight words now.dialed holds) turns
goes_still origin now words holds turns g drew = record {
  drew = subst (DrawsAll origin.words words) (append-nil (words_of turns)) (drawn_more origin.words now.words words (words_of turns) [] g.drew drew);
  made = g.made;
}

-- something was written
pub goes_on : (origin now : Sight) (holds : Option (List ℕ)) (turns : List Turn) → Goes origin now turns → Goes origin (sight now.words now.dialed holds) turns
goes_on origin now holds turns g = record { drew = g.drew; made = g.made }

pub goes_part_on : (origin now : Sight) (holds : Option (List ℕ)) (turns : List Turn) → GoesPart origin now turns → GoesPart origin (sight now.words now.dialed holds) turns
goes_part_on origin now holds turns g = record { drew = g.drew; made = g.made }
