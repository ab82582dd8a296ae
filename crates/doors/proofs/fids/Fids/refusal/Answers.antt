use Rattle.doors.proofs.fids.Fids.refusal.Goals as goal

pub returns-in-Version : goal.returns-in-Version
returns-in-Version c = rw c.in-Version.is (c.version_refusal.ensures c.args.self.now c.in-Version.version)

pub returns-in-Auth : goal.returns-in-Auth
returns-in-Auth c = rw c.in-Auth.is (c.auth_refusal.ensures c.in-Auth.uname c.in-Auth.aname)

pub returns-in-Create : goal.returns-in-Create
returns-in-Create c = rw c.in-Create.is (c.denial.ensures.create c.in-Create.name c.in-Create.perm c.in-Create.mode)

pub returns-in-Read : goal.returns-in-Read
returns-in-Read c = rw c.in-Read.is (c.read_refusal.ensures c.in-Read.count)

pub returns-in-Write : goal.returns-in-Write
returns-in-Write c = rw c.in-Write.is (rw c.as_slice-in-Write.ensures at (c.write_refusal.ensures c.in-Write.offset))

pub returns-in-Wstat : goal.returns-in-Wstat
returns-in-Wstat c = rw c.in-Wstat.is (c.denial-in-Wstat.ensures.wstat c.in-Wstat.stat)
