use Rattle.pie_trace.proofs.MigrateFacts.{migrated_tells, same_lines, version_migrated}
use Rattle.pie_trace.proofs.law.migrated_histories_are_read_back.Goals as goal

pub returns : goal.returns
returns c =
    let texts = c.texts_are_read_back.ensures in record { reads = migrated_tells texts; version = version_migrated texts; same = same_lines texts }
