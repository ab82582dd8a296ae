-- When a port stands for the calls that were made of it: each was answered by what was exchanged with the agent for it,
-- and the agent stands so that these exchanges were made with it.
use Rattle.std.specs.Prelude.{◌≡◌, ℕ, List, [], ◌++◌, Bool, true, false, Option, Some, None}
use Rattle.doors.specs.declared.port.PortOpen.{PortOpen}
use Rattle.doors.specs.declared.port.PortOpen.TheVariants as o
use Rattle.doors.specs.Calls.{PortCall}
use Rattle.door_ports.specs.declared.agent_port.AgentPort.{AgentPort}
use Rattle.door_ports.specs.declared.reply.Reply.{Reply}
use Rattle.door_ports.specs.Exchanges.{Exchange, IsTold}
use Rattle.door_ports.specs.Settings.{AllAreMade, AreMade, IsCall, Setting, after, after_call, holds, unasked, unknown_fid, with_word, word_for}

-- what stood before some calls: what had been of the agent, what was exchanged with it since, and the port's setting
pub record Stood (P : Type 0) : Type 0 where
  pub past : P
  pub done : List Exchange
  pub setting : Setting

module _ {P : Type 0} where
  -- where nothing was asked yet
  abbrev pub fresh : P → ℕ → Stood P
  fresh past conn = record { past = past; done = []; setting = unasked conn }

  -- where a word is told behind some calls, for which this was exchanged
  abbrev pub told_word : Stood P → List PortCall → List Exchange → List ℕ → Stood P
  told_word s calls more word = record {
    past = s.past;
    done = more ++ s.done;
    setting = with_word word (after s.setting calls);
  }

-- a port in this setting, for which memory never ran out
pub record Keeps {A : Type 0} (s : Setting) (port : AgentPort A) : Type 0 where
  pub works : port.has_failed ≡ false
  pub conn : port.conn ≡ s.conn
  pub word : port.word ≡ s.word
  pub is_ready : port.is_ready ≡ s.ready
  pub open_convs : port.convs.items ≡ s.convs

module _ {P A : Type 0} (stands : P → List Exchange → A → Type 0) where
  -- the calls were answered by these exchanges with its agent
  pub record Works (s : Stood P) (calls : List PortCall) (more : List Exchange) (port : AgentPort A) : Type 0 where
    pub keeps : Keeps (after s.setting calls) port
    pub made : AllAreMade s.setting calls more
    pub agent : stands s.past (more ++ s.done) port.agent

  -- once memory ran out, nothing is said of its agent any more: an agent stood for what was exchanged up to then
  pub record HasFailed (s : Stood P) (calls : List PortCall) (more : List Exchange) : Type 0 where
    pub made : AreMade s.setting calls more
    pub agent : A
    pub stood : stands s.past (more ++ s.done) agent

  abbrev pub StandsBy : Bool → Stood P → List PortCall → List Exchange → AgentPort A → Type 0
  StandsBy true s calls more port = HasFailed s calls more
  StandsBy false s calls more port = Works s calls more port

  abbrev pub StandsWith : Stood P → List PortCall → List Exchange → AgentPort A → Type 0
  StandsWith s calls more port = StandsBy port.has_failed s calls more port

  abbrev pub Stands : Stood P → List PortCall → AgentPort A → Type 0
  Stands s calls port = (more : List Exchange) × StandsWith s calls more port

-- ---- what one call leaves

-- what is asked for a request, which is replied so at last
abbrev pub IsRepliedSo : Bool → ℕ → ℕ → List ℕ → List ℕ → Reply → List Exchange → Type 0
IsRepliedSo true conn conv request word reply more = IsTold conn conv request word reply more
IsRepliedSo false conn conv request word reply more = (more ≡ []) × (reply ≡ unknown_fid)

module _ {A : Type 0} (stands : List Exchange → A → Type 0) where
  -- this was exchanged with an agent
  pub record Did (is : List Exchange → Type 0) (done : List Exchange) (agent : A) : Type 0 where
    pub more : List Exchange
    pub are : is more
    pub leaves : stands (more ++ done) agent

  -- a port is in this setting, and this was exchanged with its agent
  pub record Went (is : List Exchange → Type 0) (done : List Exchange) (s : Setting) (port : AgentPort A)
      : Type 0 where
    pub keeps : Keeps s port
    pub did : Did is done port.agent

  -- a call was made
  abbrev pub Makes : Setting → PortCall → List Exchange → AgentPort A → Type 0
  Makes s call done port = Went (IsCall s call) done (after_call call s) port

  -- a conversation was asked, and this is what was replied last
  pub record AsksOne (s : Setting) (conv : ℕ) (request : List ℕ) (reply : Reply) (done : List Exchange)
      (port : AgentPort A) : Type 0 where
    pub keeps : Keeps s port
    pub did : Did (IsRepliedSo (holds conv s.convs) s.conn conv request (word_for s request) reply) done port.agent

-- the answer to an open
abbrev pub opened_as : Option ℕ → PortOpen
opened_as (Some conv) = o.Open conv
opened_as None = o.Refused
