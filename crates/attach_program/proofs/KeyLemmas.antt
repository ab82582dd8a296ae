-- The lines of a keys file, given one after the other.
use Rattle.std.proofs.Common.{◌≡◌, ℕ, ◌+◌, ◌≤◌, ◌<◌, List, [], ◌∷◌, length, Option, None, Some, refl, sym, ap, subst, ◌∙◌, append-nil, arith}
use Rattle.std.specs.Prelude.{true, false, IfSome, codes}
use Rattle.std.specs.Borrow.{Bor}
use Rattle.attr_tuples.specs.Cutting.{lines_left, text_lines, turns_left}
use Rattle.agent_history.specs.Histories.{History}
use Rattle.agent_core.specs.declared.agent.Agent.{Agent}
use Rattle.agent_core.specs.Agents.{StandsFor}
use Rattle.door_ports.specs.declared.reply.Reply.{Reply}
use Rattle.door_ports.specs.Exchanges.{Exchange, IsPreparing, Sends, agrees, asked, attaches, exchanged, is_done, no_word, opens, prepared, reply, walks, writes}
use Rattle.door_ports.specs.Agents.{StandsBehind, behind}
use Rattle.door_ports.specs.Ports.{Did}
use Rattle.attach_program.specs.Keys.{first_bad, is_empty, is_key_line, is_taken, with_line, with_lines}

-- ---- ctl is opened

-- an exchange in which a frame came
sent_so : (past : History) (done : List Exchange) (conn : ℕ) (frame word : List ℕ) (e : Exchange) → Sends conn frame word e → behind past (e ∷ done) ≡ exchanged conn frame word (behind past done)
sent_so past done conn frame word e (is, came, with) = rw (is, came, with) refl

behind_four : (conn : ℕ) (H : History) (more : List Exchange) → IsPreparing conn more → behind H more ≡ prepared conn H
behind_four conn H [] are = absurd are
behind_four conn H (d ∷ []) are = absurd are
behind_four conn H (d ∷ c ∷ []) are = absurd are
behind_four conn H (d ∷ c ∷ b ∷ []) are = absurd are
behind_four conn H (d ∷ c ∷ b ∷ a ∷ x ∷ more) are = absurd are
behind_four conn H (d ∷ c ∷ b ∷ a ∷ []) (e, f, g, h) =
    sent_so H (c ∷ b ∷ a ∷ []) conn (opens 1) no_word d h
    ∙ ap (asked conn (opens 1)) (sent_so H (b ∷ a ∷ []) conn (walks 1 (codes "ctl")) no_word c g
    ∙ ap (asked conn (walks 1 (codes "ctl"))) (sent_so H (a ∷ []) conn attaches no_word b f
    ∙ ap (asked conn attaches) (sent_so H [] conn agrees no_word a e)))

pub prepared_so : (conn : ℕ) (H : History) (agent : Agent) → Did (StandsBehind H) (IsPreparing conn) [] agent → StandsFor (prepared conn H) agent
prepared_so conn H agent d = subst (λ (K : History). StandsFor K agent) (behind_four conn H d.more d.are) (subst (λ (l : List Exchange). StandsFor (behind H l) agent) (append-nil d.more) d.leaves.stands)

-- ---- one line

pub skips : (line : List ℕ) (H : History) → is_empty line ≡ true → is_taken line H ≡ true
skips line H none = rw none refl

pub skipped : (line : List ℕ) (H : History) (agent : Agent) → is_empty line ≡ true → StandsFor H agent → StandsFor (with_line line H) agent
skipped line H agent none stands = rw none stands

pub denies : (line : List ℕ) (H : History) → is_empty line ≡ false → is_key_line line ≡ false → is_taken line H ≡ false
denies line H some key = rw (some, key) refl

pub takes : (line : List ℕ) (H : History) (r : Reply) → is_empty line ≡ false → is_key_line line ≡ true → r ≡ reply 0 (writes 1 line) H → is_done r ≡ is_taken line H
takes line H r some key is = rw (some, key, is) refl

pub taken : (line : List ℕ) (H : History) (agent : Agent) → is_empty line ≡ false → StandsFor (asked 0 (writes 1 line) H) agent → StandsFor (with_line line H) agent
taken line H agent some stands = rw some stands

-- ---- line by line

-- so far all lines were taken, and an agent stands for what they made of the first one
pub record Given (first : History) (lines : List (List ℕ)) (left : Option (Bor (List ℕ))) (number : ℕ) (agent : Agent) : Type 0 where
  pub keys : History
  pub stands : StandsFor keys agent
  pub same : with_lines first lines ≡ with_lines keys (lines_left left)
  pub bad : first_bad 1 first lines ≡ first_bad number keys (lines_left left)

bad_taken : (number : ℕ) (H : History) (line : List ℕ) (lines : List (List ℕ)) → is_taken line H ≡ true → first_bad number H (line ∷ lines) ≡ first_bad (number + 1) (with_line line H) lines
bad_taken number H line lines is = rw is refl

bad_denied : (number : ℕ) (H : History) (line : List ℕ) (lines : List (List ℕ)) → is_taken line H ≡ false → first_bad number H (line ∷ lines) ≡ Some number
bad_denied number H line lines is = rw is refl

pub given_more : (first : History) (lines : List (List ℕ)) (left : Option (Bor (List ℕ))) (text : Bor (List ℕ)) (line : List ℕ) (rest : Option (Bor (List ℕ))) (number : ℕ) (old new : Agent) → left ≡ Some text → text_lines text.now ≡ line ∷ lines_left rest
    → (g : Given first lines left number old) → is_taken line g.keys ≡ true → StandsFor (with_line line g.keys) new → Given first lines rest (number + 1) new
given_more first lines left text line rest number old new is cut g taken stands =
    let parts : lines_left left ≡ line ∷ lines_left rest = ap lines_left is ∙ cut in
    record {
      keys = with_line line g.keys;
      stands = stands;
      same = g.same ∙ ap (with_lines g.keys) parts;
      bad = g.bad ∙ ap (first_bad number g.keys) parts ∙ bad_taken number g.keys line (lines_left rest) taken;
    }

pub given_bad : (first : History) (lines : List (List ℕ)) (left : Option (Bor (List ℕ))) (text : Bor (List ℕ)) (line : List ℕ) (rest : Option (Bor (List ℕ))) (number : ℕ) (agent : Agent) → left ≡ Some text → text_lines text.now ≡ line ∷ lines_left rest
    → (g : Given first lines left number agent) → is_taken line g.keys ≡ false → first_bad 1 first lines ≡ Some number
given_bad first lines left text line rest number agent is cut g denied =
    let parts : lines_left left ≡ line ∷ lines_left rest = ap lines_left is ∙ cut in
    g.bad ∙ ap (first_bad number g.keys) parts ∙ bad_denied number g.keys line (lines_left rest) denied

pub given_all : (first : History) (lines : List (List ℕ)) (left : Option (Bor (List ℕ))) (number : ℕ) (agent : Agent) → left ≡ None → Given first lines left number agent → StandsFor (with_lines first lines) agent
given_all first lines left number agent is g = subst (λ (H : History). StandsFor H agent) (sym (g.same ∙ ap (λ (l : Option (Bor (List ℕ))). with_lines g.keys (lines_left l)) is)) g.stands

pub none_bad : (first : History) (lines : List (List ℕ)) (left : Option (Bor (List ℕ))) (number : ℕ) (agent : Agent) → left ≡ None → Given first lines left number agent → first_bad 1 first lines ≡ None
none_bad first lines left number agent is g = g.bad ∙ ap (λ (l : Option (Bor (List ℕ))). first_bad number g.keys (lines_left l)) is

-- ---- a line more, and fewer turns left

turn_on : (text : Bor (List ℕ)) (rest : Option (Bor (List ℕ))) (n room : ℕ) → IfSome rest (λ r. length r.now < length text.now) → n + (length text.now + 1) ≤ room → (n + 1) + turns_left rest ≤ room
turn_on text None n room h le = omega (arith, le)
turn_on text (Some r) n room h le = omega (arith, h, le)

pub turns_fall : (left : Option (Bor (List ℕ))) (text : Bor (List ℕ)) (rest : Option (Bor (List ℕ))) (n room : ℕ) → left ≡ Some text → IfSome rest (λ r. length r.now < length text.now) → n + turns_left left ≤ room → (n + 1) + turns_left rest ≤ room
turns_fall left text rest n room e h le =
    let before : turns_left left ≡ length text.now + 1 = ap turns_left e in
    turn_on text rest n room h (omega (arith, le, before))
