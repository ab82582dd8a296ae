-- What a conversation meets, and the lines of the log, leave of an agent: its connections, its reads and its replies.
use Rattle.std.proofs.Common.{◌≡◌, ℕ, List, ◌∷◌, Bool, false, eqb, Option, refl, ap, ◌∙◌}
use Rattle.std.specs.List.{list_all}
use Rattle.nine.specs.declared.message.RMsg.{RMsg}
use Rattle.talks.specs.Calls as calls
use Rattle.talks.specs.Standings.{Standing, standing, then_stands}
use Rattle.agent_history.specs.Deeds.{Deed, OfTalk, Raised, is_halted, keys_of, msize_of, was_hung, was_opened}
use Rattle.agent_history.specs.Replies.{Wait, has_settled, replies, taken, waits}
use Rattle.agent_history.specs.Conversations.{Speaker, logged, opened_talks, questions, raised, speakers, standing_of, talk}
use Rattle.driven_agents.specs.Quiet.{leads_away}
use Rattle.driven_agents.proofs.CallLemmas.{logged_same, other_talk, own_talk}

-- what is looked at of deeds
pub record Sides : Type 0 where
  pub named : Bool
  pub entered : Bool
  pub hung : Bool
  pub agreed : Option ℕ
  pub stopped : Bool
  pub seated : List Speaker
  pub numbered : ℕ
  pub waiting : List Wait
  pub told : Bool
  pub given : List RMsg
  pub gone : ℕ

abbrev pub sides : List Deed → Sides
sides done = record {
  named = list_all leads_away done;
  entered = was_opened done 0;
  hung = was_hung done 0;
  agreed = msize_of done 0;
  stopped = is_halted done;
  seated = speakers done;
  numbered = opened_talks done;
  waiting = waits done 0;
  told = has_settled done;
  given = replies done 0;
  gone = taken done 0;
}

-- what a conversation meets since leaves them, and the talks of the others
pub record Going (conv : ℕ) (from done : List Deed) : Type 0 where
  pub side : sides done ≡ sides from
  pub others : (other : ℕ) → eqb conv other ≡ false → talk done other ≡ talk from other
  pub keys : keys_of done ≡ keys_of from

pub same_going : (conv : ℕ) (from : List Deed) → Going conv from from
same_going conv from = record { side = refl; others = λ other off. refl; keys = refl }

pub talk_going : (conv : ℕ) (from done : List Deed) (call : calls.Call) → Going conv from done → Going conv from (OfTalk conv call ∷ done)
talk_going conv from done call g = record {
  side = g.side;
  others = λ other off. other_talk conv other call done off ∙ g.others other off;
  keys = g.keys;
}

pub raised_going : (conv : ℕ) (from done : List Deed) → Going conv from done → Going conv from (Raised conv ∷ done)
raised_going conv from done g = record { side = g.side; others = λ other off. g.others other off; keys = g.keys }

pub stands_here : (conv : ℕ) (call : calls.Call) (done : List Deed) (s : Standing) → standing_of done conv ≡ s → standing_of (OfTalk conv call ∷ done) conv ≡ then_stands s s.phase call
stands_here conv call done s e = ap standing (own_talk conv call done) ∙ ap (λ x. then_stands x x.phase call) e

-- ---- the log

-- lines leave all but the log
pub record Logged (conv : ℕ) (from done : List Deed) : Type 0 where
  pub going : Going conv from done
  pub talks : (other : ℕ) → talk done other ≡ talk from other
  pub asked : questions done ≡ questions from
  pub risen : raised done ≡ raised from

pub all_logged_on : (conv : ℕ) (lines : List (List ℕ)) (done : List Deed) → Logged conv done (logged lines done)
all_logged_on conv lines done =
    let others = λ (other : ℕ). logged_same (λ d. talk d other) (λ line d. refl) lines done in
    record {
      going = record { side = logged_same sides (λ line d. refl) lines done; others = λ other off. others other; keys = logged_same keys_of (λ line d. refl) lines done };
      talks = others;
      asked = logged_same questions (λ line d. refl) lines done;
      risen = logged_same raised (λ line d. refl) lines done;
    }
