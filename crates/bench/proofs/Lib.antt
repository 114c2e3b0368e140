mod SystemRows
