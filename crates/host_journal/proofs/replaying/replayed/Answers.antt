use Rattle.std.proofs.Common.{◌∙◌, ℕ, Err, ap, inl, inr, refl, subst, sym}
use Rattle.base.specs.declared.or_memory.OrMemory.{OrMemory}
use Rattle.base.specs.declared.or_memory.OrMemory.TheVariants.{Fault}
use Rattle.host_journal.specs.declared.fault.JournalFault.{JournalFault}
use Rattle.host_recovery.specs.Recovering.{Answers}
use Rattle.host_recovery.specs.declared.fault.RecoveryFault.{RecoveryFault}
use Rattle.host_recovery.specs.declared.fault.RecoveryFault.TheVariants.{Form, Unfollowed}
use Rattle.host_journal.specs.declared.fault.JournalFile.TheVariants.{Segment}
use Rattle.host_journal.specs.Disks.{EndsIn, Held, IsFailed, IsQuiet, Opened}
use Rattle.host_journal.specs.Starts.{AreNoSegment, HasCause, IsToldOf, ReadsSince}
use Rattle.host_journal.proofs.Causes.{told_cause, too_long}
use Rattle.host_journal.proofs.Quiet.{ends_on, quiet_result, quiet_step, quiet_trans, went_quiet, went_step}
use Rattle.host_journal.proofs.replaying.replayed.Goals as goal

pub returns-in-Err-Fault-Form-clause-steps : goal.returns-in-Err-Fault-Form-clause-steps
returns-in-Err-Fault-Form-clause-steps g c =
    let old = g.D.Disk.steps c.args.disk.now in
    let opened = g.D.Disk.steps c.open_segment.new.self in
    let read = g.D.Disk.steps c.read_open.new.disk in
    quiet_trans old read (g.D.Disk.steps c.fault_of.new.disk)
    (quiet_trans old opened read (quiet_step old opened (Opened c.args.number) refl c.in-Ok.ensures.steps) (quiet_result (g.D.Disk.segment c.open_segment.new.self) opened read (Err c.in-Err-Fault-Form.field-0) c.in-Err-Fault-Form.ensures.steps)) c.fault_of.ensures.quiet

pub returns-in-Err-Fault-Form-clause-cause : goal.returns-in-Err-Fault-Form-clause-cause
returns-in-Err-Fault-Form-clause-cause g c =
    let old = g.D.Disk.steps c.args.disk.now in
    let opened = g.D.Disk.steps c.open_segment.new.self in
    let read = g.D.Disk.steps c.read_open.new.disk in
    let quiet : IsQuiet old read = quiet_trans old opened read (quiet_step old opened (Opened c.args.number) refl c.in-Ok.ensures.steps) (quiet_result (g.D.Disk.segment c.open_segment.new.self) opened read (Err c.in-Err-Fault-Form.field-0) c.in-Err-Fault-Form.ensures.steps) in
    told_cause c.args.number ((g.D.Disk.held c.args.disk.now).segments c.args.number) (Form c.in-Err-Fault-Form.form) old read (g.D.Disk.steps c.fault_of.new.disk) c.fault_of.result tt (went_quiet old read quiet)
    (subst (λ (held : Held). IsToldOf c.args.number (held.segments c.args.number) (Form c.in-Err-Fault-Form.form) read (g.D.Disk.steps c.fault_of.new.disk) c.fault_of.result) (c.read_open.ensures.held ∙ c.open_segment.ensures.held) c.fault_of.ensures.told)

pub returns-in-Err-Fault-Unfollowed-clause-steps : goal.returns-in-Err-Fault-Unfollowed-clause-steps
returns-in-Err-Fault-Unfollowed-clause-steps g c =
    let old = g.D.Disk.steps c.args.disk.now in
    let opened = g.D.Disk.steps c.open_segment.new.self in
    let read = g.D.Disk.steps c.read_open.new.disk in
    quiet_trans old read (g.D.Disk.steps c.fault_of-in-Err-Fault-Unfollowed.new.disk)
    (quiet_trans old opened read (quiet_step old opened (Opened c.args.number) refl c.in-Ok.ensures.steps) (quiet_result (g.D.Disk.segment c.open_segment.new.self) opened read (Err c.in-Err-Fault-Unfollowed.field-0) c.in-Err-Fault-Unfollowed.ensures.steps)) c.fault_of-in-Err-Fault-Unfollowed.ensures.quiet

pub returns-in-Err-Fault-Unfollowed-clause-cause : goal.returns-in-Err-Fault-Unfollowed-clause-cause
returns-in-Err-Fault-Unfollowed-clause-cause g c =
    let old = g.D.Disk.steps c.args.disk.now in
    let opened = g.D.Disk.steps c.open_segment.new.self in
    let read = g.D.Disk.steps c.read_open.new.disk in
    let quiet : IsQuiet old read = quiet_trans old opened read (quiet_step old opened (Opened c.args.number) refl c.in-Ok.ensures.steps) (quiet_result (g.D.Disk.segment c.open_segment.new.self) opened read (Err c.in-Err-Fault-Unfollowed.field-0) c.in-Err-Fault-Unfollowed.ensures.steps) in
    told_cause c.args.number ((g.D.Disk.held c.args.disk.now).segments c.args.number) (Unfollowed c.in-Err-Fault-Unfollowed.at) old read (g.D.Disk.steps c.fault_of-in-Err-Fault-Unfollowed.new.disk) c.fault_of-in-Err-Fault-Unfollowed.result tt (went_quiet old read quiet)
    (subst (λ (held : Held). IsToldOf c.args.number (held.segments c.args.number) (Unfollowed c.in-Err-Fault-Unfollowed.at) read (g.D.Disk.steps c.fault_of-in-Err-Fault-Unfollowed.new.disk) c.fault_of-in-Err-Fault-Unfollowed.result) (c.read_open.ensures.held ∙ c.open_segment.ensures.held) c.fault_of-in-Err-Fault-Unfollowed.ensures.told)

pub returns-in-Err-Fault-Unread-clause-cause : goal.returns-in-Err-Fault-Unread-clause-cause
returns-in-Err-Fault-Unread-clause-cause g c =
    let old = g.D.Disk.steps c.args.disk.now in
    let opened = g.D.Disk.steps c.open_segment.new.self in
    let since = subst (λ (error : OrMemory RecoveryFault). ReadsSince (g.D.Disk.segment c.open_segment.new.self) opened (Err error) (g.D.Disk.steps c.read_open.new.disk)) (c.in-Err-Fault-Unread.field-0-is ∙ ap Fault c.in-Err-Fault-Unread.field-0-0-is) c.in-Err-Fault-Unread.ensures.steps in
    subst (λ (error : OrMemory JournalFault). HasCause c.args.number ((g.D.Disk.held c.args.disk.now).segments c.args.number) old (g.D.Disk.steps c.read_open.new.disk) error) (sym c.unread.ensures)
    (inl (ends_on (IsFailed (Segment c.args.number)) old opened (g.D.Disk.steps c.read_open.new.disk) (went_step old opened (Opened c.args.number) c.in-Ok.ensures.steps)
    (subst (λ (n : ℕ). EndsIn (IsFailed (Segment n)) opened (g.D.Disk.steps c.read_open.new.disk)) c.in-Ok.ensures.which since.1)))

pub returns-in-Err-Fault-TooLong-clause-cause : goal.returns-in-Err-Fault-TooLong-clause-cause
returns-in-Err-Fault-TooLong-clause-cause g c =
    let its = subst (λ (error : OrMemory RecoveryFault). Answers c.args.config.now (g.D.Disk.remaining c.open_segment.new.self) (Err error)) (c.in-Err-Fault-TooLong.field-0-is ∙ ap Fault c.in-Err-Fault-TooLong.field-0-0-is) c.in-Err-Fault-TooLong.ensures.recovers in
    subst (λ (error : OrMemory JournalFault). HasCause c.args.number ((g.D.Disk.held c.args.disk.now).segments c.args.number) (g.D.Disk.steps c.args.disk.now) (g.D.Disk.steps c.read_open.new.disk) error) (sym c.unread-in-Err-Fault-TooLong.ensures)
    (inr (subst AreNoSegment c.in-Ok.ensures.bytes (too_long (g.D.Disk.remaining c.open_segment.new.self) its.0 its.1 its.2)))
