use Rattle.load_image.proofs.writing.put_statement.Goals as goal

pub returns-clause-bytes : goal.returns-clause-bytes
returns-clause-bytes c = c.put_fields.ensures

pub returns-clause-fits : goal.returns-clause-fits
returns-clause-fits c = c.fields_fit.ensures
