use Rattle.std.proofs.Common.{refl}
use Rattle.sgb_programs.proofs.Written.{whole_exported, front_exported, text_refused, export_refused}
use Rattle.sgb_programs.proofs.exporting.export_text_metered.Goals as goal

pub returns-in-Ok-export : goal.returns-in-Ok-export
returns-in-Ok-export g c =
    record {
      exports = whole_exported c.args.writer.now c.export.new.writer c.args.rule c.args.format c.args.text.now c.in-Ok.graph _
          c.in-Ok.ensures.graph c.in-Ok-export.ensures.exports;
    }

pub returns-in-Err-Refused : goal.returns-in-Err-Refused
returns-in-Err-Refused g c =
    record {
      exports = export_refused c.args.writer.now c.export.new.writer c.args.rule c.args.format c.args.text.now c.in-Ok.graph
          c.in-Err-Refused.field-0 c.in-Err-Refused.refusal c.refused.result
          c.in-Ok.ensures.graph c.in-Err-Refused.field-0-is c.in-Err-Refused.ensures.exports c.refused.ensures.answer c.refused.ensures.fault;
    }

pub returns-in-Ok : goal.returns-in-Ok
returns-in-Ok g c =
    record {
      exports = front_exported c.args.writer.now c.export.new.writer c.args.rule c.args.format c.args.text.now c.in-Ok.graph
          c.in-Err-Write.field-0 c.in-Ok.ensures.graph c.in-Err-Write.field-0-is c.in-Err-Write.ensures.exports;
    }

pub returns : goal.returns
returns g c =
    record {
      exports = text_refused c.args.writer.now c.args.writer.now c.args.rule c.args.format c.args.text.now c.in-Err.refusal c.refused-in-Err.result
          c.in-Err.ensures.refusal c.refused-in-Err.ensures.answer c.refused-in-Err.ensures.fault refl;
    }
