use Rattle.pie_record.proofs.ReadBack.{remaining-read, events-read, history-read, fields-read, written-back}
use Rattle.pie_record.proofs.HistoryFacts.{records_left-written, records_of-written}
use Rattle.pie_record.proofs.law.texts_are_read_back.Goals as goal

pub returns : goal.returns
returns c = record {
  records = records_left-written;
  first = records_of-written;
  fields = fields-read;
  lines = remaining-read;
  history = history-read;
  events = events-read;
  written = written-back;
}
