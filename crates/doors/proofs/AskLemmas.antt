-- What is asked at a port to begin a conversation, and to read one.
use Rattle.std.proofs.Common.{◌≡◌, ℕ, List, [], ◌∷◌, ◌++◌, Bool, true, false, Option, refl, ap, subst, ◌∙◌}
use Rattle.doors.specs.declared.port.PortOpen.TheVariants.{Open}
use Rattle.doors.specs.Calls.{PortCall, Asked, Closed, Opened, heard, is_well, start_text}
use Rattle.doors.specs.Requests.{begun_by}
use Rattle.doors.specs.declared.asking.Answer.{Answer}
use Rattle.doors.specs.Answers.{Begins, Starts, heard_of, said_of}
use Rattle.doors.proofs.PortLemmas.{called_first}

-- a start was answered well
pub started : {P : Type 0} (stands : List PortCall → P → Type 0) (past : List PortCall) (port : P) (conv : ℕ) (came : Option Answer) (answer : List ℕ)
    → stands (Asked conv start_text (said_of came) answer ∷ past) port → heard (said_of came) answer ≡ heard_of came answer → is_well (heard_of came answer) ≡ true → Starts stands past port conv true
started stands past port conv came answer told hears is =
    let well : is_well (heard (said_of came) answer) ≡ true = ap is_well hears ∙ is in
    record {
      calls = Asked conv start_text (said_of came) answer ∷ [];
      login = (refl, refl, well);
      number = ap (λ (b : Bool). begun_by b conv) well;
      told = told;
    }

-- it wasn't, and the conversation was closed
pub not_started : {P : Type 0} (stands : List PortCall → P → Type 0) (past : List PortCall) (port : P) (conv : ℕ) (came : Option Answer) (answer : List ℕ)
    → stands (Closed conv ∷ Asked conv start_text (said_of came) answer ∷ past) port → heard (said_of came) answer ≡ heard_of came answer → is_well (heard_of came answer) ≡ false
    → Starts stands past port conv false
not_started stands past port conv came answer told hears is = record {
  calls = Closed conv ∷ Asked conv start_text (said_of came) answer ∷ [];
  login = (refl, refl, refl, ap is_well hears ∙ is);
  number = refl;
  told = told;
}

-- an open, and what the start came to
pub begins : {P : Type 0} (stands : List PortCall → P → Type 0) (past : List PortCall) (port : P) (conv : ℕ) (well : Bool) → Starts stands (Opened (Open conv) ∷ past) port conv well → Begins stands past port (begun_by well conv)
begins stands past port conv well h = record {
  calls = h.calls ++ Opened (Open conv) ∷ [];
  login = h.login;
  number = h.number;
  told = subst (λ (calls : List PortCall). stands calls port) (called_first h.calls past (Opened (Open conv))) h.told;
}
