-- No talk of p9any calls a key bad but where the authentication server answers, and none gives more than an answer has room for.
use Rattle.std.proofs.Common.{◌≡◌, ◌≤◌, List, [], ◌∷◌, true, false, length}
use Rattle.roles.specs.declared.stage.Role.{Role}
use Rattle.roles.specs.declared.stage.Role.TheVariants.{Client, Server, Speakfor}
use Rattle.roles.specs.Starts.{Start, role_of}
use Rattle.roles.specs.Talks.{Call}
use Rattle.conv_p9any.specs.Courses.{answer_after, course, first_stage, puts_after, verdict}
use Rattle.talks.specs.Protocols.{p9sk1}
use Rattle.world_promises.proofs.AnyMoves.{Moves, Stood, StoodAt, by_broken}
use Rattle.world_promises.proofs.VerdictForms.{FitMoves, answer_so, bytes_so, goes_on, is_bad, is_heard}

begins : (F : Type 0) (role : Role) → StoodAt F (first_stage role)
begins F Client = tt
begins F (Speakfor user) = tt
begins F Server = tt

stood_so : (F : Type 0) (start : Start) (talk : List Call) → (F → length start.word ≡ 8) → (F → FitMoves talk) → Stood F (course p9sk1 start talk).stage
stood_so F start [] word fits = begins F (role_of start.template)
stood_so F start (call ∷ talk) word fits =
    let p = course p9sk1 start talk in
    let so = stood_so F start talk word (λ f. (fits f).1) in
    goes_on (Stood F) F call p (verdict p9sk1 start p call) so (by_broken F start p.stage p.broken call word (λ f. (fits f).0) so)

each_verdict : (F : Type 0) (start : Start) (talk : List Call) (call : Call) → (F → length start.word ≡ 8) → (F → FitMoves (call ∷ talk)) → Moves F call (verdict p9sk1 start (course p9sk1 start talk) call)
each_verdict F start talk call word fits =
    let p = course p9sk1 start talk in
    by_broken F start p.stage p.broken call word (λ f. (fits f).0) (stood_so F start talk word (λ f. (fits f).1))

pub any_good : (start : Start) (talk : List Call) (call : Call) → is_heard call ≡ false → is_bad (answer_after p9sk1 start talk call) ≡ true → ⊥
any_good start talk call off = answer_so (Stood ⊥) ⊥ call (verdict p9sk1 start (course p9sk1 start talk) call) (each_verdict ⊥ start talk call (λ f. absurd f) (λ f. absurd f)) off

pub any_small : (start : Start) (talk : List Call) (call : Call) → length start.word ≡ 8 → FitMoves (call ∷ talk) → length (puts_after p9sk1 start talk call) ≤ 2048
any_small start talk call word fits = bytes_so (Stood (Unit {0})) (Unit {0}) call (verdict p9sk1 start (course p9sk1 start talk) call) (each_verdict (Unit {0}) start talk call (λ f. word) (λ f. fits)) tt
