use Rattle.pie_commands.proofs.Names.{◌∙◌, found_of, first_value-rows}
use Rattle.pie_commands.proofs.options.values.text.Goals as goal

pub returns : goal.returns
returns c = c.get_str.ensures ∙ first_value-rows (found_of c.args.options.now) c.args.name.now
