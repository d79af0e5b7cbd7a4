-- `by_method` meets its contract. Assumes nothing.
use Rattle.source_streams.proofs.Methods.{of_method, no_method_lem}
use Rattle.source_streams.proofs.by_method.Goals as goal

pub returns-in-Ok : goal.returns-in-Ok
returns-in-Ok c = of_method _ c.args.words.now _ c.in-Ok.ensures c.fields_of.ensures

pub returns-in-Err : goal.returns-in-Err
returns-in-Err c = no_method_lem _ c.args.words.now c.in-Err.ensures c.field.ensures
